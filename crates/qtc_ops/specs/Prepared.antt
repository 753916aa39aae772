-- What an operation that is ready for many items was made from. (Own.)
use Rattle.qtc_ops.specs.declared.operations.ItemOp.{ItemOp}
use Rattle.qtc_ops.specs.declared.operations.ItemOp.TheVariants.{Map, Keep}
use Rattle.qtc_ops.specs.declared.predicates.Pred.TheVariants.{Contains}
use Rattle.qtc_ops.specs.declared.prepared.Prepared.{Prepared}
use Rattle.qtc_ops.specs.declared.prepared.Prepared.TheVariants as ready

abbrev pub op_of : Prepared → ItemOp
op_of (ready.Map op) = Map op
op_of (ready.Search not literal) = Keep not (Contains literal)
op_of (ready.Keep not pred) = Keep not pred

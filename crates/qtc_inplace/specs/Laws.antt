-- What holds of the operations of job files. (Own.)
use Rattle.qtc_ops.specs.Operations.{value_of}
use Rattle.qtc_ops.specs.declared.operations.ItemOp.TheVariants.{Map}
use Rattle.qtc_ops.specs.declared.operations.MapOp.{MapOp}
use Rattle.qtc_inplace.specs.Conditions.{NeverDrops}

abbrev pub MapsNeverDrop : Type 0
MapsNeverDrop = (op : MapOp) → NeverDrops (value_of (Map op))

use Rattle.std.proofs.Common.{List, subst, sym}
use Rattle.qtc_ops.specs.Operations.{value_of}
use Rattle.qtc_ops.specs.contracts.op_fns.OpFnItemFn.TheImpl.{value-value}
use Rattle.qtc_ops.specs.declared.op_fns.OpFn.{OpFn}
use Rattle.qtc_ops.specs.declared.operations.ItemOp.TheVariants.{Map}
use Rattle.qtc_inplace.specs.Conditions.{CanWork}
use Rattle.qtc_inplace.proofs.WorkLemmas.{can-work}
use Rattle.qtc_inplace.proofs.tests.mapped_by.Goals as goal

pub blocking_mapped-requires-after_bounds : goal.blocking_mapped-requires-after_bounds
blocking_mapped-requires-after_bounds g c κs within =
    let functions = c.in_ok-functions.functions.items in
    let made = c.in_ok-functions.ensures in
    subst (λ (fs : List OpFn). CanWork value-value.it c.args.list.now c.args.chunk fs) (sym c.as_mut_slice.ensures.value)
    (can-work value-value.it (value_of (Map c.args.op)) c.args.list.now c.args.chunk c.args.count functions c.requires.list c.requires.chunk.0 c.requires.chunk.1 made.count c.requires.count.0 c.requires.count.1 made.alike)

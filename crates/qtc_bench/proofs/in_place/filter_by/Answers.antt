use Rattle.std.proofs.Common.{false, List, arith, subst, sym}
use Rattle.qtc_ops.specs.Operations.{value_of}
use Rattle.qtc_ops.specs.contracts.op_fns.OpFnItemFn.TheImpl.{value-value}
use Rattle.qtc_ops.specs.declared.op_fns.OpFn.{OpFn}
use Rattle.qtc_ops.specs.declared.operations.ItemOp.TheVariants.{Keep}
use Rattle.qtc_ops.specs.declared.predicates.Pred.TheVariants.{Longer}
use Rattle.qtc_inplace.specs.Conditions.{CanWork}
use Rattle.qtc_inplace.proofs.WorkLemmas.{can-work}
use Rattle.qtc_bench.proofs.in_place.filter_by.Goals as goal

pub filter_in_place-requires-after_bounds : goal.filter_in_place-requires-after_bounds
filter_in_place-requires-after_bounds g c κs within =
    let functions = c.in_ok-functions.functions.items in
    let made = c.in_ok-functions.ensures in
    subst (λ (fs : List OpFn). CanWork value-value.it c.args.list.now.items 1024 fs) (sym c.as_mut_slice.ensures.value)
    (can-work value-value.it (value_of (Keep false (Longer 9))) c.args.list.now.items 1024 c.args.count functions (omega (arith, c.requires.list)) (omega arith) (omega arith) made.count c.requires.count.0 c.requires.count.1 made.alike)

use Rattle.std.proofs.Common.{◌≤◌, List, arith, length, subst, sym}
use Rattle.qtc_ops.specs.Operations.{value_of}
use Rattle.qtc_ops.specs.contracts.op_fns.OpFnItemFn.TheImpl.{value-value}
use Rattle.qtc_ops.specs.declared.op_fns.OpFn.{OpFn}
use Rattle.qtc_ops.specs.declared.operations.ItemOp.TheVariants.{Map}
use Rattle.qtc_ops.specs.declared.operations.MapOp.TheVariants.{Digest}
use Rattle.qtc_inplace.specs.Conditions.{CanWork, NeverDrops, value_of as shared_value}
use Rattle.qtc_inplace.proofs.MapLemmas.{never-part}
use Rattle.qtc_inplace.proofs.WorkLemmas.{can-work}
use Rattle.qtc_bench.proofs.in_place.map_by.Goals as goal

pub map_in_place-requires-clause-work : goal.map_in_place-requires-clause-work
map_in_place-requires-clause-work g c κs within =
    let functions = c.in_ok-functions.functions.items in
    let made = c.in_ok-functions.ensures in
    subst (λ (fs : List OpFn). CanWork value-value.it c.args.list.now 1024 fs) (sym c.as_mut_slice.ensures.value)
    (can-work value-value.it (value_of (Map Digest)) c.args.list.now 1024 c.args.count functions (omega (arith, c.requires.list)) (omega arith) (omega arith) made.count c.requires.count.0 c.requires.count.1 made.alike)

pub map_in_place-requires-clause-never : goal.map_in_place-requires-clause-never
map_in_place-requires-clause-never g c κs within =
    let functions = c.in_ok-functions.functions.items in
    let made = c.in_ok-functions.ensures in
    let some : 1 ≤ length functions = omega (arith, made.count, c.requires.count.0) in
    subst (λ (fs : List OpFn). NeverDrops (shared_value value-value.it fs)) (sym c.as_mut_slice.ensures.value)
    (never-part value-value.it (value_of (Map Digest)) functions some made.alike (c.maps_never_drop.ensures Digest))

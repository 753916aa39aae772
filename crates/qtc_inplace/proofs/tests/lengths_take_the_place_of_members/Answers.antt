use Rattle.std.proofs.Common.{subst, sym}
use Rattle.qtc_ops.specs.declared.operations.MapOp.TheVariants.{Length}
use Rattle.qtc_inplace.specs.Conditions.{NeverDrops}
use Rattle.qtc_inplace.proofs.tests.lengths_take_the_place_of_members.Goals as goal

pub map_in_place-done-requires-clause-never : goal.map_in_place-done-requires-clause-never
map_in_place-done-requires-clause-never g c κs = subst NeverDrops (sym c.new-first.ensures.value) (c.maps_never_drop.ensures Length)

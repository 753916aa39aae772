use Rattle.std.proofs.Common.{◌≡◌, map}
use Rattle.qtc_tasks.specs.Places.{waiting}
use Rattle.qtc_tasks.proofs.places.places_of.Given as goal

abbrev pub invariant-loop-job : goal.invariant-loop-job
invariant-loop-job g l = l.places.items ≡ map waiting l.yielded

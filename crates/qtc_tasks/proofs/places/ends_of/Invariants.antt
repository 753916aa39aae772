use Rattle.std.proofs.Common.{◌≡◌, ◌+◌, ◌≤◌}
use Rattle.std.specs.Prelude.{vec_capacity, vec_len}
use Rattle.std.specs.Vec.Iter.{into_iter_len}
use Rattle.qtc_tasks.specs.Places.{ends_in}
use Rattle.qtc_tasks.proofs.places.ends_of.Given as goal

abbrev pub invariant-loop-place : goal.invariant-loop-place
invariant-loop-place g l =
    let rest = l.place-iterator in let first = l.initial.place-iterator in
    (l.ends.items ≡ ends_in l.yielded)
    × (vec_len l.ends + into_iter_len rest ≤ into_iter_len first)
    × (into_iter_len first ≤ vec_capacity l.ends)

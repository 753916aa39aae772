use Rattle.std.proofs.Common.{◌≡◌, ◌+◌, ◌≤◌}
use Rattle.std.specs.Prelude.{vec_capacity, vec_len}
use Rattle.std.specs.Vec.Iter.{into_iter_len}
use Rattle.qtc_tasks.proofs.synchronizer.passes_of.Given as goal

abbrev pub invariant-loop-one : goal.invariant-loop-one
invariant-loop-one g l =
    let rest = l.one-iterator in let first = l.initial.one-iterator in
    (l.room.items ≡ l.yielded)
    × (vec_len l.room + into_iter_len rest ≤ into_iter_len first)
    × (into_iter_len first ≤ vec_capacity l.room)

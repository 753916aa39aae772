use Rattle.std.proofs.Common.{◌≡◌, ◌≤◌, ◌+◌, length, drop}
use Rattle.qtc_shared.specs.Passes.{ready_among}
use Rattle.qtc_shared.proofs.queries.ready_from.Given as goal

abbrev pub invariant-loop-event : goal.invariant-loop-event
invariant-loop-event l = record {
  few : l.ready ≤ length l.yielded;
  so_far : l.ready + ready_among (drop (length l.yielded) (drop l.cursor l.events)) ≡ ready_among (drop l.cursor l.events);
}

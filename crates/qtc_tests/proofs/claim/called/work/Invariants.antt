use Rattle.std.proofs.Common.{◌≡◌, ◌+◌, ◌-◌, ◌*◌, All}
use Rattle.qtc_base.specs.Limits.{most_block}
use Rattle.qtc_claim.specs.Laws.{AreCalls, NoneMissing, added_for}
use Rattle.qtc_tests.proofs.claim.called.work.Given as goal

abbrev pub invariant-loop-piece : goal.invariant-loop-piece
invariant-loop-piece g l = record {
  callable : goal.F-IsAlwaysCallable g l.call;
  of : l.seat.of ≡ l.counter;
  calls : AreCalls l.counter.n l.seat.worker.claims l.calls.items;
  missing : NoneMissing l.counter.n l.seat.worker.claims (added_for l.pieces.items);
  pieces : All (λ piece. piece.of ≡ l.counter) l.pieces.items;
}

-- what the counter can still grow by
abbrev pub decreases-loop-piece : goal.decreases-loop-piece
decreases-loop-piece g l = l.counter.n + most_block * l.counter.workers - l.seat.worker.seen

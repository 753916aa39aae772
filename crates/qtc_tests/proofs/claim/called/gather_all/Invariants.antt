use Rattle.std.proofs.Common.{◌≡◌, ◌≤◌, ◌+◌, All, IfOk, length}
use Rattle.qtc_claim.specs.Claims.{added, claims_of}
use Rattle.qtc_claim.specs.Laws.{AreCalls, NoneMissing, added_for}
use Rattle.qtc_tests.proofs.claim.called.gather_all.Given as goal

abbrev pub invariant-loop-told : goal.invariant-loop-told
invariant-loop-told l = record {
  of : l.tally.of ≡ l.counter;
  count : length l.tally.workers + length l.all.items ≡ length l.initial.all.items;
  past : All (λ worker. l.counter.n ≤ worker.seen) l.tally.workers;
  missing : NoneMissing l.counter.n (claims_of l.tally.workers) (added l.tally.pieces);
  missing_left : All (λ told. IfOk told (λ w. NoneMissing l.counter.n w.seat.worker.claims (added_for w.pieces.items))) l.all.items;
  calls : AreCalls l.counter.n (claims_of l.tally.workers) l.calls.items;
  seats_left : All (λ told. IfOk told (λ worked. worked.seat.of ≡ l.counter)) l.all.items;
  past_left : All (λ told. IfOk told (λ worked. l.counter.n ≤ worked.seat.worker.seen)) l.all.items;
  calls_left : All (λ told. IfOk told (λ worked. AreCalls l.counter.n worked.seat.worker.claims worked.calls.items)) l.all.items;
  pieces_left : All (λ told. IfOk told (λ worked. All (λ piece. piece.of ≡ l.counter) worked.pieces.items)) l.all.items;
}

abbrev pub decreases-loop-told : goal.decreases-loop-told
decreases-loop-told l = length l.all.items

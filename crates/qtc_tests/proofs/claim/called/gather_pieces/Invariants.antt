use Rattle.std.proofs.Common.{◌≡◌, ◌+◌, All}
use Rattle.qtc_claim.specs.Claims.{added}
use Rattle.qtc_claim.specs.Laws.{added_for}
use Rattle.qtc_tests.proofs.claim.called.gather_pieces.Given as goal

abbrev pub invariant-loop-piece : goal.invariant-loop-piece
invariant-loop-piece l = record {
  of : l.tally.of ≡ l.counter;
  workers : l.tally.workers ≡ l.initial.tally.workers;
  added : added l.tally.pieces + added_for l.pieces.items ≡ added l.initial.tally.pieces + added_for l.initial.pieces.items;
  pieces : All (λ piece. piece.of ≡ l.counter) l.pieces.items;
}

abbrev pub decreases-loop-piece : goal.decreases-loop-piece
decreases-loop-piece l = goal.left-loop-piece l

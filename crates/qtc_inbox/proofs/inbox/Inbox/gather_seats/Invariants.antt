use Rattle.std.proofs.Common.{◌≡◌, ◌++◌, All, length}
use Rattle.qtc_claim.specs.Counter.{IsGathered}
use Rattle.qtc_inbox.specs.Endings.{workers_of}
use Rattle.qtc_inbox.proofs.inbox.Inbox.gather_seats.Given as goal

-- what is gathered and what is left are all
abbrev pub invariant-loop-self : goal.invariant-loop-self
invariant-loop-self g l = record {
  of : l.tally.of ≡ l.fn.tally.of;
  pieces : l.tally.pieces ≡ l.fn.tally.pieces;
  gathered : IsGathered l.self.key.counter l.tally;
  workers : l.tally.workers ++ workers_of l.seats.items ≡ l.fn.tally.workers ++ workers_of l.fn.seats.items;
  seats : All (λ seat. seat.of ≡ l.self.key.counter) l.seats.items;
}

abbrev pub decreases-loop-self : goal.decreases-loop-self
decreases-loop-self g l = length l.seats.items

use Rattle.qtc_inbox.specs.Boards.{IsBoard}
use Rattle.qtc_inbox.proofs.inbox.Inbox.drain_all.Given as goal

abbrev pub invariant-loop : goal.invariant-loop
invariant-loop g l = record {
  can : (goal.iterator-loop g).can_next l.iterator';
  finite : (goal.iterator-loop g).is_finite l.iterator';
  board : IsBoard l.self l.board.place l.board.tally l.board.pass l.board.all_reported;
}

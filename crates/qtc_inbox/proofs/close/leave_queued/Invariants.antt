use Rattle.std.proofs.Common.{◌≡◌}
use Rattle.qtc_inbox.specs.Endings.{KeepsReporting}
use Rattle.qtc_inbox.proofs.close.leave_queued.Given as goal

-- what is said of the pass stays true
abbrev pub invariant-loop-left : goal.invariant-loop-left
invariant-loop-left g l = record {
  line : l.board.place.line ≡ l.line.table;
  counter : l.board.tally.of ≡ l.fn.counter;
  key : l.board.place.has.key.counter ≡ l.fn.counter;
  pass : l.board.pass ≡ l.fn.board.pass;
  kept : KeepsReporting l.fn.counter l.fn.board.tally l.fn.board.all_reported l.board.tally l.board.all_reported l.fn.board.pass;
}

use Rattle.std.proofs.Common.{◌≤◌, ◌-◌}
use Rattle.qtc_inbox.specs.Boards.{IsBoard}
use Rattle.qtc_inbox.specs.Draining.{DrainsSome, drain_at}
use Rattle.qtc_inbox.proofs.inbox.Inbox.drain_board.Given as goal

-- so many were drained so far
abbrev pub invariant-loop-count : goal.invariant-loop-count
invariant-loop-count g l = record {
  board : IsBoard l.self l.board.place l.board.tally l.board.pass l.board.all_reported;
  few : l.count ≤ l.self.line.room;
  some : DrainsSome l.self.key.counter.n (drain_at l.self l.fn.board.place l.fn.board.pass) (drain_at l.self l.board.place l.board.pass) l.count;
}

abbrev pub decreases-loop-count : goal.decreases-loop-count
decreases-loop-count g l = l.self.line.room - l.count

use Rattle.std.proofs.Common.{true}
use Rattle.qtc_inbox.specs.Boards.{parts_with}
use Rattle.qtc_inbox.proofs.inbox.Inbox.new.Given as goal

-- which inbox the board is of
abbrev pub ghosts-board_lock : goal.ghosts-board_lock
ghosts-board_lock g a = record {
  key = record { marker = record {}; parts = parts_with a._line.now a.board.place.has.key a.board.pass };
  named = true;
}

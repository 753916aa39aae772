use Rattle.std.proofs.Common.{true}
use Rattle.qtc_kernel.specs.EngineParts.{parts_with}
use Rattle.qtc_kernel.proofs.engine.Engine.new.Given as goal

-- which engine the board is of
abbrev pub ghosts-board_lock : goal.ghosts-board_lock
ghosts-board_lock g a = record {
  key = record { marker = record {}; parts = parts_with a.kind a.counter.now a.future.now a.active.now a.items.now a.functions.now.items a.sizes.now };
  named = true;
}

use Rattle.std.proofs.Common.{true, length}
use Rattle.qtc_chain.proofs.locked.guard.Given as goal

abbrev pub ghosts-new : goal.ghosts-new
ghosts-new g a = record { key = length a.value.state; named = true }

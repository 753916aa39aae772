use Rattle.std.proofs.Common.{true}
use Rattle.qtc_pool.proofs.guarded.guard.Given as goal

abbrev pub ghosts-new : goal.ghosts-new
ghosts-new g a = record { key = a.value.core.value.first; named = true }

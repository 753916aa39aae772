use Rattle.std.proofs.Common.{◌+◌, true}
use Rattle.qtc_tests.proofs.lock.opened.Given as goal

abbrev pub ghosts-new : goal.ghosts-new
ghosts-new a = record { key = a.value.left + a.value.right; named = true }

use Rattle.std.proofs.Common.{[], true}
use Rattle.qtc_claim.specs.Claims.{addition_at}
use Rattle.qtc_tests.proofs.claim.receipts.lend.Given as goal

abbrev pub ghosts-take_token : goal.ghosts-take_token
ghosts-take_token a = record { loan = record { note = []; due = addition_at 0 0 }; named = true }

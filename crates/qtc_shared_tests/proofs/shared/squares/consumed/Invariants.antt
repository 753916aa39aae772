use Rattle.std.proofs.Common.{◌≡◌}
use Rattle.qtc_shared_tests.proofs.shared.squares.consumed.Given as goal

abbrev pub invariant-loop-number : goal.invariant-loop-number
invariant-loop-number g l = l.pass.of ≡ l.future

use Rattle.std.proofs.Common.{◌≡◌, ◌≤◌}
use Rattle.qtc_shared_tests.proofs.shared.used_up.Given as goal

abbrev pub invariant-loop : goal.invariant-loop
invariant-loop g l = (l.pass.of ≡ l.future) × (l.made ≤ l.counter)

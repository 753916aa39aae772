use Rattle.std.proofs.Common.{◌≡◌}
use Rattle.qtc_tasks_tests.proofs.halves.EchoTaskU32.next.Given as goal

abbrev pub invariant-loop : goal.invariant-loop
invariant-loop g l = l.self.given ≡ 1

use Rattle.std.proofs.Common.{◌≡◌}
use Rattle.qtc_tasks_tests.proofs.rows.resume_late.Given as goal

abbrev pub invariant-loop : goal.invariant-loop
invariant-loop g l = l.watcher.of ≡ l.future

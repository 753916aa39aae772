use Rattle.std.proofs.Common.{◌≡◌, [], replicate}
use Rattle.qtc_run.proofs.workers.idle.Given as goal

abbrev pub invariant-loop : goal.invariant-loop
invariant-loop g l = l.workers.items ≡ replicate l.counter []

use Rattle.std.specs.List.{AllZip}
use Rattle.qtc_tasks.specs.Runs.{MayRun}
use Rattle.qtc_bench.proofs.tasks.jobs_of.Given as goal

-- each of the jobs may be run by the future of the same number
abbrev pub invariant-loop : goal.invariant-loop
invariant-loop l = AllZip MayRun l.futures.items l.jobs.items

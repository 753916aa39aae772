use Rattle.qtc_run.proofs.Ended.{runnable-reports}
use Rattle.qtc_run.proofs.laws.runnable_jobs_are_plain.Goals as goal

pub returns : goal.returns
returns c = runnable-reports

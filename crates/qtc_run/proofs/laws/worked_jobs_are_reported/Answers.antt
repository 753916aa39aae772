use Rattle.qtc_run.proofs.Worked.{worked-reported}
use Rattle.qtc_run.proofs.laws.worked_jobs_are_reported.Goals as goal

pub returns : goal.returns
returns c = worked-reported

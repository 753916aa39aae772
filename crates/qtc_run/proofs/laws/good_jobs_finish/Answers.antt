use Rattle.qtc_run.proofs.Ended.{good-finish}
use Rattle.qtc_run.proofs.laws.good_jobs_finish.Goals as goal

pub returns : goal.returns
returns c = good-finish

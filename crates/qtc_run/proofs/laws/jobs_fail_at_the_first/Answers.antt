use Rattle.qtc_run.proofs.SequentialLemmas.{job-ends}
use Rattle.qtc_run.proofs.laws.jobs_fail_at_the_first.Goals as goal

pub returns : goal.returns
returns c = job-ends

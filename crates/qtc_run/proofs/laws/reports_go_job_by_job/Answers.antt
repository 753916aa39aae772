use Rattle.qtc_run.proofs.ReportLemmas.{text-push}
use Rattle.qtc_run.proofs.laws.reports_go_job_by_job.Goals as goal

pub returns : goal.returns
returns c = λ workers. text-push

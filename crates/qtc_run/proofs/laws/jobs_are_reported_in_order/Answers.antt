use Rattle.qtc_run.proofs.ReportLemmas.{stand-by-place}
use Rattle.qtc_run.proofs.laws.jobs_are_reported_in_order.Goals as goal

pub returns : goal.returns
returns c = stand-by-place

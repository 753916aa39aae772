use Rattle.qtc_run.proofs.Ended.{are-sequential}
use Rattle.qtc_run.proofs.laws.reports_are_sequential.Goals as goal

pub returns : goal.returns
returns c = are-sequential

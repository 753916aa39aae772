use Rattle.qtc_run.proofs.Plain.{are-failing}
use Rattle.qtc_run.proofs.laws.failures_are_of_items_that_fail.Goals as goal

pub returns : goal.returns
returns c = are-failing

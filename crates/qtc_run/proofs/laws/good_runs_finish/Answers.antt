use Rattle.qtc_run.proofs.GoodLemmas.{runs-finish}
use Rattle.qtc_run.proofs.laws.good_runs_finish.Goals as goal

pub returns : goal.returns
returns c = runs-finish

use Rattle.qtc_chain.proofs.Once.{steps_run_once}
use Rattle.qtc_chain.proofs.laws.steps_run_once.Goals as goal

pub returns : goal.returns
returns g c = steps_run_once

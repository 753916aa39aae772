use Rattle.qtc_pool_core.proofs.Lawful.{tasks_run_once}
use Rattle.qtc_pool_core.proofs.laws.tasks_run_once.Goals as goal

pub returns : goal.returns
returns c = tasks_run_once

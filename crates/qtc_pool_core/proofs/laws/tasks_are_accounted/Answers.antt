use Rattle.qtc_pool_core.proofs.Lawful.{tasks_are_accounted}
use Rattle.qtc_pool_core.proofs.laws.tasks_are_accounted.Goals as goal

pub returns : goal.returns
returns c = tasks_are_accounted

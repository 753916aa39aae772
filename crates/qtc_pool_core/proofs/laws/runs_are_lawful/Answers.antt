use Rattle.qtc_pool_core.proofs.Lawful.{runs_are_lawful}
use Rattle.qtc_pool_core.proofs.laws.runs_are_lawful.Goals as goal

pub returns : goal.returns
returns c = runs_are_lawful

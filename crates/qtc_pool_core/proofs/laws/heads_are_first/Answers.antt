use Rattle.qtc_pool_core.proofs.Firsts.{heads_are_first}
use Rattle.qtc_pool_core.proofs.laws.heads_are_first.Goals as goal

pub returns : goal.returns
returns c = heads_are_first

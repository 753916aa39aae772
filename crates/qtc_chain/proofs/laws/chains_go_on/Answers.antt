use Rattle.qtc_chain.proofs.Chained.{go_on}
use Rattle.qtc_chain.proofs.laws.chains_go_on.Goals as goal

pub returns : goal.returns
returns g c = go_on g.K.Continuation.gives

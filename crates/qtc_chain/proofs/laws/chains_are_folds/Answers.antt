use Rattle.qtc_chain.proofs.Chained.{are_folds}
use Rattle.qtc_chain.proofs.laws.chains_are_folds.Goals as goal

pub returns : goal.returns
returns g c = are_folds g.K.Continuation.gives

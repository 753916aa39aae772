use Rattle.qtc_reduce.proofs.Folding.{folds_are_told}
use Rattle.qtc_reduce.proofs.laws.folds_are_told.Goals as goal

pub returns : goal.returns
returns g c = folds_are_told

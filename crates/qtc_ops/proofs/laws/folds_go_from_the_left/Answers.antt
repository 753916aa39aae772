use Rattle.qtc_ops.proofs.FoldLemmas.{folded-push}
use Rattle.qtc_ops.proofs.laws.folds_go_from_the_left.Goals as goal

pub returns : goal.returns
returns c = folded-push

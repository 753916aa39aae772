use Rattle.qtc_ops.proofs.FoldLemmas.{folded-count, folded-size, folded-sum}
use Rattle.qtc_ops.proofs.laws.folds_count_and_add.Goals as goal

pub returns : goal.returns
returns c = record { count = folded-count; size = folded-size; sum = folded-sum }

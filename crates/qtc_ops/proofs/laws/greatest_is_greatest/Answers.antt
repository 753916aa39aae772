use Rattle.qtc_ops.proofs.FoldLemmas.{folded-greatest}
use Rattle.qtc_ops.proofs.laws.greatest_is_greatest.Goals as goal

pub returns : goal.returns
returns c = folded-greatest

use Rattle.qtc_ops.proofs.FoldLemmas.{folded-join}
use Rattle.qtc_ops.proofs.laws.joins_separate.Goals as goal

pub returns : goal.returns
returns c = folded-join

use Rattle.qtc_ops.proofs.KeptLemmas.{pairs_between-range}
use Rattle.qtc_ops.proofs.laws.pairs_stand_by_range.Goals as goal

pub returns : goal.returns
returns c = pairs_between-range

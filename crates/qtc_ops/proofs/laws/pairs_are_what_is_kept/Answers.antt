use Rattle.qtc_ops.proofs.KeptLemmas.{pairs-contain}
use Rattle.qtc_ops.proofs.laws.pairs_are_what_is_kept.Goals as goal

pub returns : goal.returns
returns c = pairs-contain

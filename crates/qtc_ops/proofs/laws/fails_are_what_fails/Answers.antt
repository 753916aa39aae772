use Rattle.qtc_ops.proofs.KeptLemmas.{fails-contain}
use Rattle.qtc_ops.proofs.laws.fails_are_what_fails.Goals as goal

pub returns : goal.returns
returns c = fails-contain

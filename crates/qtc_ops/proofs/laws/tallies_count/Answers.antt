use Rattle.qtc_ops.proofs.TallyLemmas.{folded-tally}
use Rattle.qtc_ops.proofs.laws.tallies_count.Goals as goal

pub returns : goal.returns
returns c = folded-tally

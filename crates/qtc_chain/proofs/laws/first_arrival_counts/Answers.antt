use Rattle.qtc_chain.proofs.Firsts.{first_counts}
use Rattle.qtc_chain.proofs.laws.first_arrival_counts.Goals as goal

pub returns : goal.returns
returns g c = first_counts

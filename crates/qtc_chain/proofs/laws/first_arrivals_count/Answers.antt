use Rattle.qtc_chain.proofs.Firsts.{firsts_count}
use Rattle.qtc_chain.proofs.laws.first_arrivals_count.Goals as goal

pub returns : goal.returns
returns g c = firsts_count

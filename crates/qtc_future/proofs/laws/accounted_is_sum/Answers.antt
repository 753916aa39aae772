use Rattle.qtc_future.proofs.Growing.{accounted_is_sum}
use Rattle.qtc_future.proofs.laws.accounted_is_sum.Goals as goal

pub returns : goal.returns
returns g c = accounted_is_sum _

use Rattle.qtc_pool_core.proofs.Within.{limits_hold}
use Rattle.qtc_pool_core.proofs.laws.limits_hold.Goals as goal

pub returns : goal.returns
returns c = limits_hold

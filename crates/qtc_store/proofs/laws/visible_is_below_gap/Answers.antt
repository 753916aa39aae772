use Rattle.qtc_store.proofs.Below.{visible_is_below_gap}
use Rattle.qtc_store.proofs.laws.visible_is_below_gap.Goals as goal

pub returns : goal.returns
returns g c = visible_is_below_gap _

use Rattle.qtc_shared.proofs.Staying.{known_is_kept}
use Rattle.qtc_shared.proofs.laws.known_is_kept.Goals as goal

pub returns : goal.returns
returns g c = known_is_kept _ c.thresholds_act.ensures c.journals_end.ensures

use Rattle.qtc_shared.proofs.Staying.{seen_flags_stay}
use Rattle.qtc_shared.proofs.laws.seen_flags_stay.Goals as goal

pub returns : goal.returns
returns g c = seen_flags_stay _ c.flags_stay.ensures

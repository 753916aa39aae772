use Rattle.qtc_shared.proofs.Staying.{seen_ends_drop_all}
use Rattle.qtc_shared.proofs.laws.seen_ends_drop_all.Goals as goal

pub returns : goal.returns
returns g c = seen_ends_drop_all _ c.flags_stay.ensures

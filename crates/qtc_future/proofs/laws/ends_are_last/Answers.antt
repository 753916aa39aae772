use Rattle.qtc_future.proofs.Legality.{ends_are_last}
use Rattle.qtc_future.proofs.laws.ends_are_last.Goals as goal

pub returns : goal.returns
returns g c = ends_are_last _ c.thresholds_act.ensures c.journals_end.ensures

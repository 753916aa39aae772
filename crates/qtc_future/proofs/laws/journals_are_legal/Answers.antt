use Rattle.qtc_future.proofs.Legality.{journals_are_legal}
use Rattle.qtc_future.proofs.laws.journals_are_legal.Goals as goal

pub returns : goal.returns
returns g c = journals_are_legal _ c.thresholds_act.ensures

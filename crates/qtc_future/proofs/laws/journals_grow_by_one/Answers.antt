use Rattle.qtc_future.proofs.Legality.{journals_grow_by_one}
use Rattle.qtc_future.proofs.laws.journals_grow_by_one.Goals as goal

pub returns : goal.returns
returns g c = journals_grow_by_one _

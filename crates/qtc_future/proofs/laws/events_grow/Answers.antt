use Rattle.qtc_future.proofs.Growing.{events_grow}
use Rattle.qtc_future.proofs.laws.events_grow.Goals as goal

pub returns : goal.returns
returns g c = events_grow _

use Rattle.qtc_store.proofs.Found.{batches_are_found}
use Rattle.qtc_store.proofs.laws.batches_are_found.Goals as goal

pub returns : goal.returns
returns g c = batches_are_found _

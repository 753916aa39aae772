use Rattle.qtc_store.proofs.Keeping.{batches_keep_results}
use Rattle.qtc_store.proofs.laws.batches_keep_results.Goals as goal

pub returns : goal.returns
returns g c = batches_keep_results _

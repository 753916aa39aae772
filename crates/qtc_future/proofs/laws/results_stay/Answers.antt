use Rattle.qtc_future.proofs.Staying.{results_stay}
use Rattle.qtc_future.proofs.laws.results_stay.Goals as goal

pub returns : goal.returns
returns g c = results_stay _ c.batches_keep_results.ensures

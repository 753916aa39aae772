use Rattle.qtc_future.proofs.Found.{reports_are_found}
use Rattle.qtc_future.proofs.laws.reports_are_found.Goals as goal

pub returns : goal.returns
returns g c = reports_are_found _ c.batches_keep_results.ensures c.batches_are_found.ensures

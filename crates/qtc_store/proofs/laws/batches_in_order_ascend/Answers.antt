use Rattle.qtc_store.proofs.Ascending.{batches_in_order_ascend}
use Rattle.qtc_store.proofs.laws.batches_in_order_ascend.Goals as goal

pub returns : goal.returns
returns g c = batches_in_order_ascend _

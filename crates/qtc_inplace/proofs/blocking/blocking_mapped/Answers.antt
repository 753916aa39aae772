use Rattle.std.proofs.Common.{length}
use Rattle.qtc_inplace.proofs.CountLemmas.{all-calls}
use Rattle.qtc_inplace.proofs.blocking.blocking_mapped.Goals as goal

pub returns-clause-calls : goal.returns-clause-calls
returns-clause-calls g c =
    all-calls g.F.ItemFn.called c.args.functions.now c.take_together.new.functions (length c.args.list.now) c.take_together.result c.take_together.ensures.calls

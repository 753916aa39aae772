use Rattle.std.proofs.Common.{length}
use Rattle.qtc_inplace.proofs.CountLemmas.{all-calls}
use Rattle.qtc_inplace.proofs.in_place.map_in_place.Goals as goal

pub returns-clause-calls : goal.returns-clause-calls
returns-clause-calls g c =
    all-calls g.F.ItemFn.called c.args.functions.now c.map_together.new.functions (length c.args.list.now) c.map_together.result c.map_together.ensures.calls

use Rattle.std.proofs.Common.{rules}
use Rattle.qtc_tasks.proofs.runs.fn.run_places.for_each_mut.Goals as goal

pub run_place-requires-after_bounds : goal.run_place-requires-after_bounds
run_place-requires-after_bounds g c κs within =
    let at = c.index-futures-index.is in let ready = c.requires.ready c.index-futures-index.result in search rules

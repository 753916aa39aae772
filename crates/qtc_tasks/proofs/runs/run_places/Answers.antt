use denote.Param.Send.{sendable}
use Rattle.qtc_tasks.proofs.runs.run_places.Goals as goal

pub for_each_mut-requires-clause-accepts : goal.for_each_mut-requires-clause-accepts
for_each_mut-requires-clause-accepts g c κs within i p less is =
    let v = c.type_bounds.send-V in
    let t = c.type_bounds.send-T in
    let r = c.type_bounds.sync-R in
    (c.requires i p.now less is, search sendable)

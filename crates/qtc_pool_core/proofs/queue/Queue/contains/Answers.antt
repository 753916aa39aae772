use Rattle.std.proofs.Common.{ap, is_some, ◌∙◌}
use Rattle.qtc_pool_core.proofs.Places.{known_by_place}
use Rattle.qtc_pool_core.proofs.queue.Queue.contains.Goals as goal

pub returns : goal.returns
returns g c =
    rw (← c.self.view_is) (c.contains_key.ensures ∙ ap is_some (c.self.invariant.laid.placed c.args.id) ∙ known_by_place c.args.id 0 c.self.inside.slots.items)

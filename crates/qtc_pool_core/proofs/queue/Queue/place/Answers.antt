use Rattle.std.proofs.Common.{◌∙◌}
use Rattle.qtc_pool_core.proofs.queue.Queue.place.Goals as goal

pub returns : goal.returns
returns g c = rw (← c.self.view_is) (c.copied.ensures ∙ c.get.ensures.value ∙ c.self.invariant.laid.placed c.args.id)

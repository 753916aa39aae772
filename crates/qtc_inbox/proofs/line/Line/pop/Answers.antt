use Rattle.qtc_inbox.proofs.Steps.{takes, learns}
use Rattle.qtc_inbox.proofs.line.Line.pop.Goals as goal

pub pop_as-requires-clause-rule : goal.pop_as-requires-clause-rule
pop_as-requires-clause-rule g c = (takes _ _ c.place.invariant.part, learns _ _ c.place.invariant.part)

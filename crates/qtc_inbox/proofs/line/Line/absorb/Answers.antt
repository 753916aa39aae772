use Rattle.qtc_inbox.proofs.Steps.{merges}
use Rattle.qtc_inbox.proofs.line.Line.absorb.Goals as goal

pub absorb-requires-clause-rule : goal.absorb-requires-clause-rule
absorb-requires-clause-rule g c = merges _ _ _ _ c.place.invariant.part c.other.invariant.part

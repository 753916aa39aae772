use Rattle.std.proofs.Common.{arith}
use Rattle.qtc_inbox.proofs.Steps.{begins, opens}
use Rattle.qtc_inbox.proofs.line.Line.open.Goals as goal

pub ruled-requires-clause-rule : goal.ruled-requires-clause-rule
ruled-requires-clause-rule g c = begins

pub another-spent-requires-clause-rule : goal.another-spent-requires-clause-rule
another-spent-requires-clause-rule g c = opens _ _ _ c.in_ok-queue.ensures.3 (let parts = c.requires.parts in omega arith)

use Rattle.qtc_claim.proofs.CallLaws.{calls_law}
use Rattle.qtc_claim.proofs.laws.calls_come_together.Goals as goal

pub returns : goal.returns
returns c = calls_law

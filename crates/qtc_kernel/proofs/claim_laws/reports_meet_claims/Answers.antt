use Rattle.qtc_kernel.proofs.Gathering.{reports_meet_claims}
use Rattle.qtc_kernel.proofs.claim_laws.reports_meet_claims.Goals as goal

pub returns : goal.returns
returns c = reports_meet_claims

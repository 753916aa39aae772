use Rattle.qtc_kernel.proofs.Ending.{desks_are_worked_out}
use Rattle.qtc_kernel.proofs.claim_laws.desks_are_worked_out.Goals as goal

pub returns : goal.returns
returns c = desks_are_worked_out

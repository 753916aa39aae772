use Rattle.qtc_kernel.proofs.Whole.{whole_runs_are_sequential}
use Rattle.qtc_kernel.proofs.laws.whole_runs_are_sequential.Goals as goal

pub returns : goal.returns
returns c = whole_runs_are_sequential c.journals_are_legal.ensures

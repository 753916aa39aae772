use Rattle.qtc_kernel.proofs.Sound.{futures_are_legal}
use Rattle.qtc_kernel.proofs.laws.futures_are_legal.Goals as goal

pub returns : goal.returns
returns c = futures_are_legal c.journals_are_legal.ensures

use Rattle.qtc_kernel.proofs.Sound.{accepted_batches_are_right}
use Rattle.qtc_kernel.proofs.laws.accepted_batches_are_right.Goals as goal

pub returns : goal.returns
returns c = accepted_batches_are_right c.journals_are_legal.ensures

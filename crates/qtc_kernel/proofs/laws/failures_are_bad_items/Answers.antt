use Rattle.qtc_kernel.proofs.Sound.{failures_are_bad_items}
use Rattle.qtc_kernel.proofs.laws.failures_are_bad_items.Goals as goal

pub returns : goal.returns
returns c = failures_are_bad_items c.journals_are_legal.ensures

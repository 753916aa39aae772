use Rattle.qtc_kernel.proofs.Counted.{called_once}
use Rattle.qtc_kernel.proofs.laws.no_index_is_called_twice.Goals as goal

pub returns : goal.returns
returns c = called_once

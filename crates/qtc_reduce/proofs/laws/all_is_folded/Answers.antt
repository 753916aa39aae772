use Rattle.qtc_reduce.proofs.Staying.{all_is_folded}
use Rattle.qtc_reduce.proofs.laws.all_is_folded.Goals as goal

pub returns : goal.returns
returns g c = all_is_folded

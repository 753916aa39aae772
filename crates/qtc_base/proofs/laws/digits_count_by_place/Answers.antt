use Rattle.qtc_base.proofs.NumberLaws.{digits-count}
use Rattle.qtc_base.proofs.laws.digits_count_by_place.Goals as goal

pub returns : goal.returns
returns c = digits-count

use Rattle.qtc_ops.proofs.NumberLemmas.{is_number-decides}
use Rattle.qtc_ops.proofs.laws.digits_are_numbers.Goals as goal

pub returns-clause-numbers : goal.returns-clause-numbers
returns-clause-numbers c = is_number-decides

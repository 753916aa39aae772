use Rattle.qtc_ops.proofs.PredicateLemmas.{keeps-decides}
use Rattle.qtc_ops.proofs.laws.tests_decide_predicates.Goals as goal

pub returns : goal.returns
returns c = keeps-decides

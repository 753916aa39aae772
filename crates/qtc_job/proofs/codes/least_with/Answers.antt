use Rattle.qtc_job.proofs.LeastLemmas.{both, first}
use Rattle.qtc_job.proofs.codes.least_with.Goals as goal

pub returns-in-Some : goal.returns-in-Some
returns-in-Some c = λ m n p q. rw c.min.ensures (both m n _ _ p (rw c.in-Some.is at q))

pub returns-in-None : goal.returns-in-None
returns-in-None c = λ m n p q. first m n _ p (rw c.in-None.is at q)

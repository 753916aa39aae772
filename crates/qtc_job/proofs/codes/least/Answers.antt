use Rattle.qtc_job.proofs.codes.least.Goals as goal

pub returns-in-Some : goal.returns-in-Some
returns-in-Some c = λ m n p q. c.least_with.ensures m n (rw c.in-Some.is at p) q

use Rattle.qtc_job.proofs.codes.fault_with.Goals as goal

pub returns-in-Wrong : goal.returns-in-Wrong
returns-in-Wrong c = λ m n p q. c.least_with.ensures m n (rw c.in-Wrong.is at p) q

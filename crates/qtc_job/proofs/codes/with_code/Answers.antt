use Rattle.qtc_job.proofs.codes.with_code.Goals as goal

pub returns-in-Err-clause-gives : goal.returns-in-Err-clause-gives
returns-in-Err-clause-gives g c = λ m n meant p q. c.fault_with.ensures m n (rw c.in-Err.is at p) q

use Rattle.qtc_job.proofs.inputs.pieces_of.Goals as goal

pub returns-in-Err : goal.returns-in-Err
returns-in-Err c = λ a b n t p q. c.either.ensures a b n p (rw c.in-Err.is at q)

use Rattle.qtc_job.proofs.places.read_one.Goals as goal

pub returns : goal.returns
returns g c = rw c.in-Some.ensures.steps (c.ended.ensures _ _ c.read.ensures)

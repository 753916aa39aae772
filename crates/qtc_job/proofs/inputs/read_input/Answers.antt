use Rattle.qtc_job.proofs.inputs.read_input.Goals as goal

pub returns-in-Ok : goal.returns-in-Ok
returns-in-Ok c = let k = c.in-Ok.ensures in rw (k.cut, k.is) c.input_kind.ensures

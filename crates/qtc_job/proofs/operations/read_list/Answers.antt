use Rattle.qtc_job.proofs.operations.read_list.Goals as goal

pub returns-in-Ok : goal.returns-in-Ok
returns-in-Ok c = λ names. let k = c.in-Ok.ensures in rw (k.cut, k.is) (c.list_kind.ensures names)

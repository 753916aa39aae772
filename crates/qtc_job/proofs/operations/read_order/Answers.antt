use Rattle.qtc_job.proofs.operations.read_order.Goals as goal

pub returns-in-Ok : goal.returns-in-Ok
returns-in-Ok c = λ names. let k = c.in-Ok.ensures in rw (k.cut, k.is) (c.order_kind.ensures names)

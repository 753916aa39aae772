use Rattle.std.proofs.Common.{ap}
use Rattle.qtc_ops.specs.declared.list_ops.ListOp.TheVariants.{First}
use Rattle.qtc_job.proofs.operations.list_kind.Goals as goal

pub returns-in-Ok : goal.returns-in-Ok
returns-in-Ok c = λ names. let e = c.in-Ok.ensures names in rw c.in-First.is (e.0, ap First e.1)

pub returns-in-Err : goal.returns-in-Err
returns-in-Err c = λ names. rw c.in-First.is (c.in-Err.ensures names)

pub returns-in-Sorted : goal.returns-in-Sorted
returns-in-Sorted c = λ names. rw c.in-Sorted.is (c.read_bare.ensures names)

pub returns-in-Concat : goal.returns-in-Concat
returns-in-Concat c = λ names. rw c.in-Concat.is (c.read_bare-in-Concat.ensures names)

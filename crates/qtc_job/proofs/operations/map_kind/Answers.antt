use Rattle.std.proofs.Common.{ap}
use Rattle.qtc_ops.specs.declared.operations.MapOp.TheVariants.{Field}
use Rattle.qtc_job.proofs.operations.map_kind.Goals as goal

pub returns-in-Same : goal.returns-in-Same
returns-in-Same c = λ names. rw c.in-Same.is (c.read_bare.ensures names)

pub returns-in-Length : goal.returns-in-Length
returns-in-Length c = λ names. rw c.in-Length.is (c.read_bare-in-Length.ensures names)

pub returns-in-Digest : goal.returns-in-Digest
returns-in-Digest c = λ names. rw c.in-Digest.is (c.read_bare-in-Digest.ensures names)

pub returns-in-Ok : goal.returns-in-Ok
returns-in-Ok c = λ names. let e = c.in-Ok.ensures names in rw c.in-Field.is (e.0, ap Field e.1)

pub returns-in-Err : goal.returns-in-Err
returns-in-Err c = λ names. rw c.in-Field.is (c.in-Err.ensures names)

pub returns-in-Number : goal.returns-in-Number
returns-in-Number c = λ names. rw c.in-Number.is (c.read_bare-in-Number.ensures names)

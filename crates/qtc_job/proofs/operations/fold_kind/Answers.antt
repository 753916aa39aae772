use Rattle.std.proofs.Common.{ap}
use Rattle.qtc_ops.specs.declared.fold_ops.FoldOp.TheVariants.{Join}
use Rattle.qtc_job.proofs.operations.fold_kind.Goals as goal

pub returns-in-Count : goal.returns-in-Count
returns-in-Count c = λ names. rw c.in-Count.is (c.read_bare.ensures names)

pub returns-in-Bytes : goal.returns-in-Bytes
returns-in-Bytes c = λ names. rw c.in-Bytes.is (c.read_bare-in-Bytes.ensures names)

pub returns-in-Sum : goal.returns-in-Sum
returns-in-Sum c = λ names. rw c.in-Sum.is (c.read_bare-in-Sum.ensures names)

pub returns-in-Ok : goal.returns-in-Ok
returns-in-Ok c = λ names. let e = c.in-Ok.ensures names in rw c.in-Join.is (e.0, ap Join e.1)

pub returns-in-Err : goal.returns-in-Err
returns-in-Err c = λ names. rw c.in-Join.is (c.in-Err.ensures names)

pub returns-in-Chain : goal.returns-in-Chain
returns-in-Chain c = λ names. rw c.in-Chain.is (c.read_bare-in-Chain.ensures names)

pub returns-in-Greatest : goal.returns-in-Greatest
returns-in-Greatest c = λ names. rw c.in-Greatest.is (c.read_bare-in-Greatest.ensures names)

pub returns-in-Tally : goal.returns-in-Tally
returns-in-Tally c = λ names. rw c.in-Tally.is (c.read_bare-in-Tally.ensures names)

use Rattle.qtc_job.proofs.operations.order_kind.Goals as goal

pub returns-in-Ordered : goal.returns-in-Ordered
returns-in-Ordered c = λ names. rw c.in-Ordered.is (c.read_bare.ensures names)

pub returns-in-Unordered : goal.returns-in-Unordered
returns-in-Unordered c = λ names. rw c.in-Unordered.is (c.read_bare-in-Unordered.ensures names)

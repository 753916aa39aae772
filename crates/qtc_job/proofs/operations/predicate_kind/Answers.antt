use Rattle.std.proofs.Common.{ap}
use Rattle.qtc_ops.specs.declared.predicates.Pred.TheVariants.{Contains, Longer, Wildcard}
use Rattle.qtc_job.proofs.operations.predicate_kind.Goals as goal

pub returns-in-Ok : goal.returns-in-Ok
returns-in-Ok c = λ names. let e = c.in-Ok.ensures names in rw c.in-Contains.is (e.0, ap Contains e.1)

pub returns-in-Err : goal.returns-in-Err
returns-in-Err c = λ names. rw c.in-Contains.is (c.in-Err.ensures names)

pub returns-in-Ok-read_text : goal.returns-in-Ok-read_text
returns-in-Ok-read_text c = λ names. let e = c.in-Ok-read_text.ensures names in rw c.in-Wildcard.is (e.0, ap Wildcard e.1)

pub returns-in-Err-read_text : goal.returns-in-Err-read_text
returns-in-Err-read_text c = λ names. rw c.in-Wildcard.is (c.in-Err-read_text.ensures names)

pub returns-in-Ok-read_number : goal.returns-in-Ok-read_number
returns-in-Ok-read_number c = λ names. let e = c.in-Ok-read_number.ensures names in rw c.in-Longer.is (e.0, ap Longer e.1)

pub returns-in-Err-read_number : goal.returns-in-Err-read_number
returns-in-Err-read_number c = λ names. rw c.in-Longer.is (c.in-Err-read_number.ensures names)

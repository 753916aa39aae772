use Rattle.std.proofs.Common.{true, false, ap}
use Rattle.qtc_ops.specs.declared.operations.ItemOp.TheVariants.{Keep}
use Rattle.qtc_base.specs.Words.{words_left}
use Rattle.qtc_job.proofs.KindLemmas.{filter-form_other, filter-kind_other}
use Rattle.qtc_job.proofs.operations.filter_kind.Goals as goal

pub returns-in-Ok : goal.returns-in-Ok
returns-in-Ok c = λ names. let e = c.in-Ok.ensures names in rw c.in-Not.is (e.0, ap (Keep true) e.1)

pub returns-in-Err : goal.returns-in-Err
returns-in-Err c = λ names. rw c.in-Not.is (c.in-Err.ensures names)

pub returns-in-Ok-predicate_kind : goal.returns-in-Ok-predicate_kind
returns-in-Ok-predicate_kind c = λ names.
    let e = c.in-Ok-predicate_kind.ensures names in
    let other = c.in_default.not-Not in
    rw (filter-form_other c.args.kind (words_left c.args.words.now) other, filter-kind_other c.args.kind (words_left c.args.words.now) other) (e.0, ap (Keep false) e.1)

pub returns-in-Err-predicate_kind : goal.returns-in-Err-predicate_kind
returns-in-Err-predicate_kind c = λ names.
    rw (filter-form_other c.args.kind (words_left c.args.words.now) c.in_default.not-Not) (c.in-Err-predicate_kind.ensures names)

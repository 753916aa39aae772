use Rattle.std.proofs.Common.{ap, ◌∙◌, is_some, map}
use Rattle.qtc_base.specs.Decimal.{number_of}
use Rattle.qtc_job_file.specs.declared.keywords.Keyword.TheVariants as word
use Rattle.qtc_job.specs.Literals.{priority_of}
use Rattle.qtc_job.specs.Meaning.{order_meant, number_at, word_at}
use Rattle.qtc_job.proofs.DraftLemmas.{kept-some}
use Rattle.qtc_job.proofs.drafts.Draft.has.Goals as goal

pub returns-in-Order : goal.returns-in-Order
returns-in-Order c = λ names own d one. rw c.in-Order.is (c.is_some-in-Order.ensures ∙ (ap is_some d.order ∙ kept-some word.Order order_meant own))

pub returns-in-Blocks : goal.returns-in-Blocks
returns-in-Blocks c = λ names own d one. rw c.in-Blocks.is (c.is_some-in-Blocks.ensures ∙ (ap is_some d.blocks ∙ kept-some word.Blocks (map number_of) own))

pub returns-in-Priority : goal.returns-in-Priority
returns-in-Priority c = λ names own d one. rw c.in-Priority.is (c.is_some-in-Priority.ensures ∙ (ap is_some d.priority ∙ kept-some word.Priority (λ args. priority_of (word_at args 0)) own))

pub returns-in-CancelAfter : goal.returns-in-CancelAfter
returns-in-CancelAfter c = λ names own d one. rw c.in-CancelAfter.is (c.is_some-in-CancelAfter.ensures ∙ (ap is_some d.cancel_after ∙ kept-some word.CancelAfter (λ args. number_at args 0) own))

pub returns-in-SuspendAfter : goal.returns-in-SuspendAfter
returns-in-SuspendAfter c = λ names own d one. rw c.in-SuspendAfter.is (c.is_some-in-SuspendAfter.ensures ∙ (ap is_some d.suspend_after ∙ kept-some word.SuspendAfter (λ args. number_at args 0) own))

pub returns-in-Watch : goal.returns-in-Watch
returns-in-Watch c = λ names own d one. rw c.in-Watch.is d.watch

use Rattle.std.proofs.Common.{◌++◌, ap, sym, ◌∙◌, append-nil}
use Rattle.std.proofs.lemmas.Slice.Zip.{either_empty_from_Zip}
use Rattle.qtc_run.proofs.ReportLemmas.{text-end}
use Rattle.qtc_run.proofs.report_texts.report_text.Goals as goal

pub returns : goal.returns
returns c =
    let none = either_empty_from_Zip c.loop-job.job-iterator c.next.new.self c.next.result c.in-None.is c.next.ensures.steps in
    sym (c.loop-job.invariant ∙ (ap (λ s. c.loop-job.text ++ s) (text-end _ _ none) ∙ append-nil c.loop-job.text))

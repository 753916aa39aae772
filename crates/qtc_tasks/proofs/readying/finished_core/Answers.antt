use Rattle.std.proofs.Common.{◌≡◌, false, ap, ◌∙◌}
use Rattle.qtc_future.specs.Future.{new_future}
use Rattle.qtc_future.specs.Steps.{step}
use Rattle.qtc_future.specs.declared.requests.Request.TheVariants.{Start, ReportBatch, Finish}
use Rattle.qtc_tasks.proofs.readying.finished_core.Goals as goal

pub returns : goal.returns
returns g c =
    let start : c.start.new.self ≡ (step (new_future false 0 0) 0 Start).future = c.start.ensures.future ∙ ap (λ f. (step f 0 Start).future) c.in_ok-core.ensures in
    let report = c.in_ok-report_batch.ensures.ok.future in
    c.finish.ensures.future ∙ ap (λ f. (step f 0 Finish).future) (report ∙ (λ i. (step (start i) 0 (ReportBatch 0 c.args.values (c.len-total.ensures i))).future))

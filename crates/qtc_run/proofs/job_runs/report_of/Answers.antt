use Rattle.std.proofs.Common.{sym, ◌∙◌}
use Rattle.qtc_run.proofs.Worked.{closed-report}
use Rattle.qtc_run.proofs.job_runs.report_of.Goals as goal

pub returns : goal.returns
returns g c =
    closed-report g.F.ItemFn.value c.args.workers c.args.source.now c.args.engine c.args.done c.close-future.result c.in_ok-report.report c.worked_jobs_are_reported.ensures
    c.requires.ready c.requires.engine c.requires.done c.close-future.ensures.core c.close-future.ensures.whole c.in_ok-report.ensures.calls
    c.in_ok-report.ensures.made
    (sym c.is_canceled.ensures ∙ c.if-is_canceled.false)

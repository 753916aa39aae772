use Rattle.std.proofs.Common.{refl, ◌∙◌}
use Rattle.qtc_events.specs.declared.calls.Call.TheVariants.{ReportSuspended, Resume}
use Rattle.qtc_future.specs.declared.requests.Request.TheVariants as request
use Rattle.std.proofs.Common.{false}
use Rattle.qtc_inbox.proofs.Reporting.{beside_further, beside_tried}
use Rattle.qtc_inbox.proofs.inbox.Inbox.go_on.Goals as goal

pub returns-in_err-report_suspended : goal.returns-in_err-report_suspended
returns-in_err-report_suspended g c =
    beside_tried c.args.self.now c.args.pass.now c.report_suspended.new.pass c.requires.number request.ReportSuspended ReportSuspended c.report_suspended.result refl refl (λ future caller. refl) c.report_suspended.ensures

pub returns-in_err-set_suspended : goal.returns-in_err-set_suspended
returns-in_err-set_suspended g c =
    let first = beside_tried c.args.self.now c.args.pass.now c.report_suspended.new.pass c.requires.number request.ReportSuspended ReportSuspended c.report_suspended.result refl refl (λ future caller. refl) c.report_suspended.ensures in
    beside_further c.args.self.now c.args.pass.now c.report_suspended.new.pass c.set_suspended.new.pass first
    (beside_tried c.args.self.now c.report_suspended.new.pass c.set_suspended.new.pass (first.number_is ∙ c.requires.number) (request.SetSuspended false) Resume c.set_suspended.result refl refl (λ future caller. refl) c.set_suspended.ensures)

pub returns : goal.returns
returns g c =
    let first = beside_tried c.args.self.now c.args.pass.now c.report_suspended.new.pass c.requires.number request.ReportSuspended ReportSuspended c.report_suspended.result refl refl (λ future caller. refl) c.report_suspended.ensures in
    beside_further c.args.self.now c.args.pass.now c.report_suspended.new.pass c.set_suspended.new.pass first
    (beside_tried c.args.self.now c.report_suspended.new.pass c.set_suspended.new.pass (first.number_is ∙ c.requires.number) (request.SetSuspended false) Resume c.set_suspended.result refl refl (λ future caller. refl) c.set_suspended.ensures)

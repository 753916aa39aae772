use Rattle.qtc_inbox.proofs.Reporting.{one_beside, reporting_beside}
use Rattle.qtc_inbox.proofs.inbox.Inbox.report_one.Goals as goal

pub returns-clause-reporting : goal.returns-clause-reporting
returns-clause-reporting g c = reporting_beside c.args.self.now _ _ _ _ c.in_ok-reply.ensures.reporting c.answer.ensures.beside

pub returns-clause-one : goal.returns-clause-one
returns-clause-one g c = one_beside c.args.self.now _ _ _ _ _ _ c.in_ok-reply.ensures.one c.answer.ensures.beside

use Rattle.qtc_inbox.proofs.Reporting.{beside_further}
use Rattle.qtc_inbox.proofs.inbox.Inbox.answer.Goals as goal

pub returns-in-Err-clause-beside : goal.returns-in-Err-clause-beside
returns-in-Err-clause-beside g c = beside_further c.args.self.now _ _ _ c.go_on.ensures c.give_up.ensures.beside

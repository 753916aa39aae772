use Rattle.std.proofs.Common.{refl}
use Rattle.qtc_events.specs.declared.calls.Call.TheVariants.{Cancel}
use Rattle.qtc_inbox.proofs.Reporting.{beside_row, canceled_known}
use Rattle.qtc_inbox.proofs.inbox.Inbox.give_up.Goals as goal

pub returns-clause-beside : goal.returns-clause-beside
returns-clause-beside g c =
    beside_row c.args.self.now c.args.pass.now c.cancel.new.pass c.requires.number c.cancel.ensures.journal c.cancel.ensures.met c.cancel.ensures.pass Cancel refl refl c.cancel.ensures.done.future

pub returns-clause-ended : goal.returns-clause-ended
returns-clause-ended g c =
    canceled_known c.args.self.now c.args.pass.now c.cancel.new.pass c.requires.number c.cancel.ensures.journal c.cancel.ensures.met c.cancel.ensures.pass c.cancel.ensures.done.future

use Rattle.std.proofs.Common.{ap, subst, sym}
use Rattle.qtc_future.specs.Future.{Future}
use Rattle.qtc_shared.specs.Journals.{BeginsWith, IsJournal}
use Rattle.qtc_shared.specs.Passes.{FutureId}
use Rattle.qtc_shared.proofs.Prefixes.{begins_same}
use Rattle.qtc_inbox.proofs.Reporting.{beside_stayed}
use Rattle.qtc_inbox.proofs.inbox.Inbox.meet_one.Goals as goal

pub returns-clause-beside : goal.returns-clause-beside
returns-clause-beside g c =
    beside_stayed c.args.self.now c.args.pass.now c.meet.new.pass c.requires.number c.meet.ensures.pass.journal c.meet.ensures.pass.met c.meet.ensures.pass.pass (ap (λ (f : Future _). f.calls) c.meet.ensures.pass.done)

pub returns-clause-met : goal.returns-clause-met
returns-clause-met g c = subst (λ k. BeginsWith c.meet.new.pass.known k) c.meet.ensures.one (begins_same c.meet.new.pass.known)

pub returns-clause-lawful : goal.returns-clause-lawful
returns-clause-lawful g c =
    subst (λ (f : FutureId). IsJournal f.terms c.meet.new.pass.known) c.requires.pass
    (subst (IsJournal c.args.pass.now.of.terms) (sym (ap (λ (f : Future _). f.calls) c.meet.ensures.pass.done)) c.meet.ensures.pass.met.lawful)

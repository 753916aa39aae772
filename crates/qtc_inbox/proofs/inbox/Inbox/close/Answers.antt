use Rattle.std.proofs.Common.{◌≡◌, ap, sym, subst, ◌∙◌}
use Rattle.qtc_inbox.specs.Boards.{FitTogether, IsReporting}
use Rattle.qtc_inbox.proofs.inbox.Inbox.close.Goals as goal

pub returns : goal.returns
returns g c =
    let parts = c.args.self in
    let last = c.close-last.result in
    let new = c.leave_queued.new.board in
    let counter : c.self.inside.counter ≡ parts.key.counter = c.self.invariant.counter ∙ ap (λ it. it.key.counter) c.self.view_is in
    let fits = subst (λ it. FitTogether it.key it.pass) c.self.view_is c.self.invariant.fits in
    let is = subst (λ it. IsReporting it last.tally last.pass last.all_reported) c.self.view_is c.close-last.ensures.reporting in
    record {
      future_is = c.self.invariant.future ∙ ap (λ it. it.pass.of) c.self.view_is;
      counter_is = counter;
      all_reported = new.all_reported;
      reporting = subst (λ pass. IsReporting parts new.tally pass new.all_reported) (sym c.leave_queued.ensures.pass) (c.leave_queued.ensures.kept parts (sym counter) fits is);
    }

use Rattle.std.proofs.Common.{ap, sym, subst, ◌∙◌}
use Rattle.qtc_claim.specs.Counter.{IsNew}
use Rattle.qtc_kernel.specs.EngineParts.{FitTogether}
use Rattle.qtc_kernel.specs.OwnPasses.{is_reduced}
use Rattle.qtc_kernel.proofs.Opening.{made_board, made_engine, made_fits}
use Rattle.qtc_kernel.proofs.engine.Engine.new.Goals as goal

pub board_lock-requires-clause-fits : goal.board_lock-requires-clause-fits
board_lock-requires-clause-fits g c κs within =
    let plan = c.args.plan in
    made_board g.F.ItemFn.value g.F.ItemFn.called plan.kind plan.fold plan.items.now plan.workers plan.blocks c.args.functions.items c.requires plan.cancel_after plan.suspend_after
    c.in_ok-future.field-0.future c.in_ok-future.field-0.passes.items c.in_ok-future.field-0.reporter c.in_ok-future.field-0.caller c.in_ok-future.ensures
    c.in_ok-counter.counter c.in_ok-counter.seats.items c.in_ok-counter.tally (subst (λ n. IsNew n plan.workers c.in_ok-counter.counter c.in_ok-counter.seats.items c.in_ok-counter.tally) c.len.ensures c.in_ok-counter.ensures) c.in_ok-active.active c.in_ok-active.badges.items c.in_ok-active.ensures

pub invariant_of-engine : goal.invariant_of-engine
invariant_of-engine g c =
    let plan = c.args.plan in
    let fits = made_fits g.F.ItemFn.value g.F.ItemFn.called plan.kind plan.fold plan.items.now plan.workers plan.blocks c.args.functions.items c.requires plan.cancel_after plan.suspend_after
    c.in_ok-future.field-0.future c.in_ok-future.field-0.passes.items c.in_ok-future.field-0.reporter c.in_ok-future.field-0.caller c.in_ok-future.ensures
    c.in_ok-counter.counter c.in_ok-counter.seats.items c.in_ok-counter.tally (subst (λ n. IsNew n plan.workers c.in_ok-counter.counter c.in_ok-counter.seats.items c.in_ok-counter.tally) c.len.ensures c.in_ok-counter.ensures) c.in_ok-active.active c.in_ok-active.badges.items c.in_ok-active.ensures in
    let parts = c.in_ok-board.ensures in
    record {
      parts = subst (FitTogether g.F.ItemFn.value) (sym parts) fits;
      plain = record { plain = ap (λ it. is_reduced it.kind) parts ∙ c.requires.plain };
      workers = sym c.in_ok-counter.ensures.for_workers ∙ sym (ap (λ it. it.counter.workers) parts);
      counter = sym (ap (λ it. it.counter) parts);
      future = sym (ap (λ it. it.future) parts);
      active = sym (ap (λ it. it.active) parts);
      items = sym (ap (λ it. it.items) parts);
      sizes = sym (ap (λ it. it.sizes) parts);
      kind = sym (ap (λ it. it.kind) parts);
    }

pub returns : goal.returns
returns g c =
    let plan = c.args.plan in
    made_engine g.F.ItemFn.value g.F.ItemFn.called plan.kind plan.fold plan.items.now plan.workers plan.blocks c.args.functions.items c.requires plan.cancel_after plan.suspend_after
    c.in_ok-future.field-0.future c.in_ok-future.field-0.passes.items c.in_ok-future.field-0.reporter c.in_ok-future.field-0.caller c.in_ok-future.ensures
    c.in_ok-counter.counter c.in_ok-counter.seats.items c.in_ok-counter.tally (subst (λ n. IsNew n plan.workers c.in_ok-counter.counter c.in_ok-counter.seats.items c.in_ok-counter.tally) c.len.ensures c.in_ok-counter.ensures) c.in_ok-active.active c.in_ok-active.badges.items c.in_ok-active.ensures
    c.in_ok-board.board.key.parts c.in_ok-desks.desks.items c.in_ok-board.ensures c.in_ok-desks.ensures

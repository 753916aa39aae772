use Rattle.std.proofs.Common.{◌≤◌, ◌⊎◌, ap, refl, sym, subst, ◌∙◌}
use Rattle.qtc_kernel.specs.EngineParts.{HasMetEnd, IsDesk}
use Rattle.qtc_kernel.specs.Desks.{desk_state}
use Rattle.qtc_kernel.specs.Turns.{GoesOn}
use Rattle.qtc_kernel.proofs.AtDesks.{desk_on}
use Rattle.qtc_kernel.proofs.Turning.{wanted_none, last_over}
use Rattle.qtc_kernel.proofs.engine.Engine.work_off.Goals as goal

pub returns-clause-first : goal.returns-clause-first
returns-clause-first g c =
    let value = g.F.ItemFn.value in
    let called = g.F.ItemFn.called in
    let desk = subst (IsDesk value called c.args.self.now) (sym c.first.view_is) c.work.ensures.desk in
    desk_on value called c.args.self.now (desk_state c.first.inside) _ desk
    (record { of = refl; badge = refl; number = refl; given = refl; on = c.meet_each.ensures.pass; same_value = refl; next_size = refl })
    c.meet_each.ensures.own refl refl

pub returns-clause-over : goal.returns-clause-over
returns-clause-over g c =
    let parts = c.args.self.now in
    subst (λ d. (parts.counter.n ≤ d.seat.worker.seen) ⊎ HasMetEnd c.meet_each.new.pass) (sym c.first.view_is)
    (last_over g.F.ItemFn.value g.F.ItemFn.called parts _ c.work.new.desk c.work.result c.work.ensures.turn c.meet_each.new.pass
    (subst (λ d. GoesOn d.pass c.meet_each.new.pass) c.first.view_is c.meet_each.ensures.pass))

pub returns-clause-wants_memory : goal.returns-clause-wants_memory
returns-clause-wants_memory g c = λ none.
    sym (ap (λ d. d.wants_memory) c.enter.ensures.only) ∙ wanted_none c.enter.new.desk.wants_memory c.work.result (sym c.work.ensures.wants_memory ∙ ap (λ d. d.wants_memory) (sym c.first.view_is) ∙ none)

use Rattle.std.proofs.Common.{ℕ, List, ap, refl, sym, subst}
use Rattle.qtc_shared.specs.Journals.{BeginsWith}
use Rattle.qtc_shared.specs.Passes.{PassState}
use Rattle.qtc_shared.proofs.Prefixes.{begins_same}
use Rattle.qtc_kernel.specs.EngineParts.{IsDesk}
use Rattle.qtc_kernel.proofs.AtDesks.{desk_on}
use Rattle.qtc_kernel.proofs.Passing.{stayed_on, stayed_own}
use Rattle.qtc_kernel.proofs.engine.Engine.meet_desk.Goals as goal

pub returns-clause-pass : goal.returns-clause-pass
returns-clause-pass g c = stayed_on c.args.pass.now c.meet.new.pass c.meet.ensures.pass

pub returns-clause-own : goal.returns-clause-own
returns-clause-own g c = stayed_own c.args.pass.now c.meet.new.pass c.meet.ensures.pass

pub returns-clause-desk : goal.returns-clause-desk
returns-clause-desk g c =
    let value = g.F.ItemFn.value in
    let called = g.F.ItemFn.called in
    let desk = subst (IsDesk value called c.args.self.now) (sym c.desk.view_is) c.requires.desk in
    desk_on value called c.args.self.now _ _ desk
    (record { of = refl; badge = refl; number = refl; given = refl; on = stayed_on c.desk.inside.pass c.meet.new.other c.meet.ensures.other; same_value = refl; next_size = refl })
    (stayed_own c.desk.inside.pass c.meet.new.other c.meet.ensures.other) refl refl

pub returns-clause-met : goal.returns-clause-met
returns-clause-met g c = record {
  known = subst (λ k. BeginsWith c.meet.new.pass.known k) c.meet.ensures.one (begins_same c.meet.new.pass.known);
  unseen = ap (λ (p : PassState (List ℕ)). p.seen) c.meet.ensures.other.pass;
}

use Rattle.std.proofs.Common.{ℕ, List, [], All, true, ap, arith, refl, sym, subst, ◌∙◌}
use Rattle.std.proofs.lemmas.List.Elements.{All-weaker}
use Rattle.qtc_events.specs.declared.calls.Call.TheVariants.{Cancel}
use Rattle.qtc_future.specs.declared.requests.Request.TheVariants.{Cancel as AskCancel}
use Rattle.qtc_shared.specs.Journals.{calls_by}
use Rattle.qtc_shared.specs.Passes.{PassState}
use Rattle.qtc_kernel.specs.EngineParts.{IsOwnCall, work_of}
use Rattle.qtc_kernel.specs.Turns.{HasMade}
use Rattle.qtc_kernel.specs.Working.{IsLeaving}
use Rattle.qtc_kernel.proofs.AtDesks.{desk_leaves, own_cancel, own_more}
use Rattle.qtc_kernel.proofs.Passing.{HasCalled, called_end, called_on, called_own, canceled_ends, canceled_stood, goes_further, goes_same, knows_met, stayed_on, stayed_own}
use Rattle.qtc_kernel.proofs.engine.Engine.give_up.Goals as goal

pub gather-requires-clause-ended : goal.gather-requires-clause-ended
gather-requires-clause-ended g c κs within =
    let hold = c.cancel.ensures in
    called_end c.desk.inside.pass c.cancel.new.pass Cancel [] (record { journal = hold.journal; met = hold.met; future = hold.done.future; pass = hold.pass }) canceled_ends canceled_stood

pub returns-clause-desk : goal.returns-clause-desk
returns-clause-desk g c =
    let value = g.F.ItemFn.value in
    let called = g.F.ItemFn.called in
    let parts = c.args.self.now in
    let work = work_of value parts in
    let leaving = subst (λ d. IsLeaving value called parts d c.args.piece) (sym c.desk.view_is) c.requires in
    let old = c.desk.inside.pass in
    let mid = c.cancel.new.pass in
    let new = c.gather.new.pass in
    let hold = c.cancel.ensures in
    let calls = called c.desk.inside.function in
    let made : HasCalled old mid Cancel [] = record { journal = hold.journal; met = hold.met; future = hold.done.future; pass = hold.pass } in
    let before : All (IsOwnCall parts.kind parts.future.terms work true calls) (calls_by old.number old.known) =
    All-weaker (IsOwnCall parts.kind parts.future.terms work c.desk.inside.wants_memory calls) (IsOwnCall parts.kind parts.future.terms work true calls)
    (λ logged. own_more parts.kind parts.future.terms work c.desk.inside.wants_memory true calls calls logged (λ wants_memory. refl) (λ index. omega arith)) (calls_by old.number old.known) leaving.own
    in
    desk_leaves value called parts _ _ c.args.piece leaving
    (record { of = refl; badge = refl; number = refl; given = refl; on = goes_further old mid new (called_on old mid Cancel [] made refl) (stayed_on mid new c.gather.ensures.pass); same_value = refl; next_size = refl })
    (subst (All (IsOwnCall parts.kind parts.future.terms work true calls)) (sym (stayed_own mid new c.gather.ensures.pass))
    (called_own old mid Cancel [] made (IsOwnCall parts.kind parts.future.terms work true calls) before (λ logged call item. own_cancel parts.kind parts.future.terms work calls logged call)))
    refl c.gather.ensures.left

pub returns-clause-turn : goal.returns-clause-turn
returns-clause-turn g c =
    let old = c.desk.inside.pass in
    let mid = c.cancel.new.pass in
    let new = c.gather.new.pass in
    let hold = c.cancel.ensures in
    let cancels : HasMade old new AskCancel = record { before = old; after = mid; effect = c.cancel.result; earlier = goes_same old; made = hold; later = stayed_on mid new c.gather.ensures.pass } in
    record {
      stays = record { seat = ap (λ d. d.seat) c.desk.view_is; number = ap (λ (p : PassState (List ℕ)). p.number) (c.gather.ensures.pass.pass) ∙ ap (λ (p : PassState (List ℕ)). p.number) hold.pass ∙ ap (λ d. d.pass.number) c.desk.view_is; function = ap (λ d. d.function) c.desk.view_is; looks = ap (λ (p : PassState (List ℕ)). p.looks) c.gather.ensures.pass.pass ∙ ap (λ (p : PassState (List ℕ)). p.looks) hold.pass ∙ ap (λ d. d.pass.looks) c.desk.view_is; badge = ap (λ d. d.badge) c.desk.view_is };
      turn_is = refl;
      wants_memory = refl;
      cancels = subst (λ p. HasMade p new AskCancel) (ap (λ d. d.pass) c.desk.view_is) cancels;
      met = knows_met new c.gather.ensures.left.ended;
    }

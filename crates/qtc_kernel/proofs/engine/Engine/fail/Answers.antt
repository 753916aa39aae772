use Rattle.std.proofs.Common.{◌≡◌, ℕ, List, [], All, Some, ap, inl, refl, sym, subst, ◌∙◌}
use Rattle.std.specs.Prelude.{option_copied, slice_get, slice_index_or}
use Rattle.std.proofs.lemmas.Option.{get_or_from_slice_get}
use Rattle.qtc_events.specs.declared.calls.Call.TheVariants.{Fail}
use Rattle.qtc_future.specs.declared.requests.Request.TheVariants.{Fail as AskFail}
use Rattle.qtc_shared.specs.Passes.{PassState}
use Rattle.qtc_kernel.specs.EngineParts.{IsFailedCall, IsOwnCall, work_of}
use Rattle.qtc_kernel.specs.Turns.{HasMade}
use Rattle.qtc_kernel.specs.Working.{IsLeaving}
use Rattle.qtc_kernel.specs.Workload.{item_at}
use Rattle.qtc_kernel.proofs.AtDesks.{desk_leaves, own_fail}
use Rattle.qtc_kernel.proofs.Passing.{HasCalled, called_end, called_on, called_own, failed_ends, failed_stood, goes_further, goes_same, knows_met, stayed_on, stayed_own}
use Rattle.qtc_kernel.proofs.engine.Engine.fail.Goals as goal

pub gather-requires-clause-ended : goal.gather-requires-clause-ended
gather-requires-clause-ended g c κs within =
    let hold = c.fail.ensures in
    called_end c.desk.inside.pass c.fail.new.pass (Fail c.args.index) c.in-Ok.item (record { journal = hold.journal; met = hold.met; future = hold.done.future; pass = hold.pass }) (failed_ends c.args.index) (failed_stood c.args.index)

pub returns-clause-desk : goal.returns-clause-desk
returns-clause-desk g c =
    let value = g.F.ItemFn.value in
    let called = g.F.ItemFn.called in
    let parts = c.args.self.now in
    let work = work_of value parts in
    let leaving = subst (λ d. IsLeaving value called parts d c.args.piece) (sym c.desk.view_is) c.requires.desk in
    let old = c.desk.inside.pass in
    let mid = c.fail.new.pass in
    let new = c.gather.new.pass in
    let hold = c.fail.ensures in
    let calls = called c.desk.inside.function in
    let there : slice_get c.self.inside.items.now c.args.index ≡ Some c.unwrap-bad.result.now = sym c.get.ensures ∙ ap option_copied c.unwrap-bad.ensures in
    let items : c.self.inside.items.now ≡ parts.items = c.self.invariant.items ∙ ap (λ it. it.items) c.self.view_is in
    let item : item_at work c.args.index ≡ c.in-Ok.item =
    ap (λ (xs : List (List ℕ)). slice_index_or xs c.args.index []) (sym items) ∙ get_or_from_slice_get c.self.inside.items.now c.args.index c.unwrap-bad.result.now [] there ∙ sym c.in-Ok.ensures
    in
    let bad : IsFailedCall work calls (record { index = c.args.index; item = item_at work c.args.index }) = subst (λ d. IsFailedCall work (called d.function) (record { index = c.args.index; item = item_at work c.args.index })) (sym c.desk.view_is) c.requires.bad in
    let failing = subst (λ it. IsFailedCall work calls (record { index = c.args.index; item = it })) item bad in
    let made : HasCalled old mid (Fail c.args.index) c.in-Ok.item = record { journal = hold.journal; met = hold.met; future = hold.done.future; pass = hold.pass } in
    desk_leaves value called parts _ _ c.args.piece leaving
    (record { of = refl; badge = refl; number = refl; given = refl; on = goes_further old mid new (called_on old mid (Fail c.args.index) c.in-Ok.item made refl) (stayed_on mid new c.gather.ensures.pass); same_value = refl; next_size = refl })
    (subst (All (IsOwnCall parts.kind parts.future.terms work c.desk.inside.wants_memory calls)) (sym (stayed_own mid new c.gather.ensures.pass))
    (called_own old mid (Fail c.args.index) c.in-Ok.item made (IsOwnCall parts.kind parts.future.terms work c.desk.inside.wants_memory calls) leaving.own
    (λ logged call is. own_fail parts.kind parts.future.terms work c.desk.inside.wants_memory calls c.args.index c.in-Ok.item logged failing call is)))
    refl c.gather.ensures.left

pub returns-clause-turn : goal.returns-clause-turn
returns-clause-turn g c =
    let value = g.F.ItemFn.value in
    let parts = c.args.self.now in
    let work = work_of value parts in
    let old = c.desk.inside.pass in
    let mid = c.fail.new.pass in
    let new = c.gather.new.pass in
    let hold = c.fail.ensures in
    let there : slice_get c.self.inside.items.now c.args.index ≡ Some c.unwrap-bad.result.now = sym c.get.ensures ∙ ap option_copied c.unwrap-bad.ensures in
    let items : c.self.inside.items.now ≡ parts.items = c.self.invariant.items ∙ ap (λ it. it.items) c.self.view_is in
    let item : item_at work c.args.index ≡ c.in-Ok.item =
    ap (λ (xs : List (List ℕ)). slice_index_or xs c.args.index []) (sym items) ∙ get_or_from_slice_get c.self.inside.items.now c.args.index c.unwrap-bad.result.now [] there ∙ sym c.in-Ok.ensures
    in
    let made : HasCalled old mid (Fail c.args.index) c.in-Ok.item = record { journal = hold.journal; met = hold.met; future = hold.done.future; pass = hold.pass } in
    let fails : HasMade old new (AskFail c.args.index c.in-Ok.item) = record { before = old; after = mid; effect = c.fail.result; earlier = goes_same old; made = hold; later = stayed_on mid new c.gather.ensures.pass } in
    inl (record {
      stays = record { seat = ap (λ d. d.seat) c.desk.view_is; number = ap (λ (p : PassState (List ℕ)). p.number) (c.gather.ensures.pass.pass) ∙ ap (λ (p : PassState (List ℕ)). p.number) hold.pass ∙ ap (λ d. d.pass.number) c.desk.view_is; function = ap (λ d. d.function) c.desk.view_is; looks = ap (λ (p : PassState (List ℕ)). p.looks) c.gather.ensures.pass.pass ∙ ap (λ (p : PassState (List ℕ)). p.looks) hold.pass ∙ ap (λ d. d.pass.looks) c.desk.view_is; badge = ap (λ d. d.badge) c.desk.view_is };
      turn_is = refl;
      wants_memory = ap (λ d. d.wants_memory) c.desk.view_is;
      fails = subst (λ p. HasMade p new (AskFail c.args.index (item_at work c.args.index))) (ap (λ d. d.pass) c.desk.view_is) (subst (λ it. HasMade old new (AskFail c.args.index it)) (sym item) fails);
      met = knows_met new c.gather.ensures.left.ended;
    })

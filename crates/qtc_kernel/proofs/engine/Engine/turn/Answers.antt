use Rattle.std.proofs.Common.{◌≡◌, ℕ, List, ◌+◌, nat_lt, cond, length, ap, refl, sym, subst, ◌∙◌}
use Rattle.std.specs.Prelude.{slice_index}
use Rattle.qtc_claim.specs.Counter.{ClaimsNone, ClaimsPiece, CounterId}
use Rattle.qtc_kernel.specs.EngineParts.{FitTogether, IsDesk}
use Rattle.qtc_kernel.specs.Desks.{desk_state}
use Rattle.qtc_kernel.specs.Turns.{IsTurn}
use Rattle.qtc_kernel.proofs.AtDesks.{desk_looked}
use Rattle.qtc_kernel.proofs.Turning.{at_work, found_nothing, turn_told}
use Rattle.qtc_kernel.proofs.engine.Engine.turn.Goals as goal

pub returns-in_default-clause-desk : goal.returns-in_default-clause-desk
returns-in_default-clause-desk g c =
    let value = g.F.ItemFn.value in
    let called = g.F.ItemFn.called in
    let parts = c.args.self.now in
    let fits = subst (FitTogether value) c.self.view_is c.self.invariant.parts in
    let desk = subst (IsDesk value called parts) (sym c.desk.view_is) c.requires.desk in
    let counter : c.self.inside.counter ≡ parts.counter = c.self.invariant.counter ∙ ap (λ it. it.counter) c.self.view_is in
    found_nothing value called parts fits _ desk _ c.meets_end.ensures.looked (c.in_default.ensures.of ∙ counter) refl refl refl _
    (subst (λ (id : CounterId). ClaimsNone id.n (slice_index c.as_slice.result.now c.desk.inside.next_size) c.desk.inside.seat.worker c.claim.new.seat.worker) counter c.in_default.ensures.none) refl

pub work_on-requires-after_bounds : goal.work_on-requires-after_bounds
work_on-requires-after_bounds g c κs within =
    let value = g.F.ItemFn.value in
    let called = g.F.ItemFn.called in
    let parts = c.args.self.now in
    let fits = subst (FitTogether value) c.self.view_is c.self.invariant.parts in
    let desk = subst (IsDesk value called parts) (sym c.desk.view_is) c.requires.desk in
    let counter : c.self.inside.counter ≡ parts.counter = c.self.invariant.counter ∙ ap (λ it. it.counter) c.self.view_is in
    let sizes : c.self.inside.sizes ≡ parts.sizes = c.self.invariant.sizes ∙ ap (λ it. it.sizes) c.self.view_is in
    let claim : ClaimsPiece parts.counter (slice_index parts.sizes c.desk.inside.next_size) c.desk.inside.seat.worker c.claim.new.seat.worker c.in-Some.piece =
    subst (λ (s : List ℕ). ClaimsPiece parts.counter (slice_index s c.desk.inside.next_size) c.desk.inside.seat.worker c.claim.new.seat.worker c.in-Some.piece) (c.as_slice.ensures ∙ sizes)
    (subst (λ (id : CounterId). ClaimsPiece id (slice_index c.as_slice.result.now c.desk.inside.next_size) c.desk.inside.seat.worker c.claim.new.seat.worker c.in-Some.piece) counter c.in-Some.ensures.piece)
    in
    let turn = c.place_after-desk-inside.ensures ∙ ap (λ len. cond (nat_lt (c.desk.inside.next_size + 1) len) (c.desk.inside.next_size + 1) 0) (c.len.ensures ∙ ap length sizes) in
    at_work value called parts fits _ desk _ c.meets_end.ensures.looked (c.in-Some.ensures.of ∙ counter) refl refl refl c.in-Some.piece claim (c.meets_end.ensures.going c.if-meets_end.false) turn

pub returns-clause-turn : goal.returns-clause-turn
returns-clause-turn g c =
    let value = g.F.ItemFn.value in
    let called = g.F.ItemFn.called in
    let parts = c.args.self.now in
    let fits = subst (FitTogether value) c.self.view_is c.self.invariant.parts in
    let desk = subst (IsDesk value called parts) (sym c.desk.view_is) c.requires.desk in
    let counter : c.self.inside.counter ≡ parts.counter = c.self.invariant.counter ∙ ap (λ it. it.counter) c.self.view_is in
    let sizes : c.self.inside.sizes ≡ parts.sizes = c.self.invariant.sizes ∙ ap (λ it. it.sizes) c.self.view_is in
    let claim : ClaimsPiece parts.counter (slice_index parts.sizes c.desk.inside.next_size) c.desk.inside.seat.worker c.claim.new.seat.worker c.in-Some.piece =
    subst (λ (s : List ℕ). ClaimsPiece parts.counter (slice_index s c.desk.inside.next_size) c.desk.inside.seat.worker c.claim.new.seat.worker c.in-Some.piece) (c.as_slice.ensures ∙ sizes)
    (subst (λ (id : CounterId). ClaimsPiece id (slice_index c.as_slice.result.now c.desk.inside.next_size) c.desk.inside.seat.worker c.claim.new.seat.worker c.in-Some.piece) counter c.in-Some.ensures.piece)
    in
    let turn = c.place_after-desk-inside.ensures ∙ ap (λ len. cond (nat_lt (c.desk.inside.next_size + 1) len) (c.desk.inside.next_size + 1) 0) (c.len.ensures ∙ ap length sizes) in
    subst (λ old. IsTurn value called parts old c.work_on.new.desk c.work_on.result) c.desk.view_is
    (turn_told value called parts fits _ desk
    (record {
      seat = c.claim.new.seat;
      pass = c.meets_end.new.pass;
      function = c.desk.inside.function;
      next_size = c.place_after-desk-inside.result;
      badge = c.desk.inside.badge;
      wants_memory = c.desk.inside.wants_memory;
    })
    c.meets_end.ensures.looked (c.in-Some.ensures.of ∙ counter) refl refl refl c.in-Some.piece claim (c.meets_end.ensures.going c.if-meets_end.false) turn
    c.work_on.new.desk c.work_on.result (c.meets_end.ensures.free c.if-meets_end.false) c.work_on.ensures.stays.looks c.work_on.ensures.stays.seat c.work_on.ensures.turn)

pub returns-then-meets_end-clause-desk : goal.returns-then-meets_end-clause-desk
returns-then-meets_end-clause-desk g c =
    let value = g.F.ItemFn.value in
    let called = g.F.ItemFn.called in
    let parts = c.args.self.now in
    let desk = subst (IsDesk value called parts) (sym c.desk.view_is) c.requires.desk in
    desk_looked value called parts (desk_state c.desk.inside) _ desk refl refl refl c.meets_end.ensures.looked refl refl refl refl

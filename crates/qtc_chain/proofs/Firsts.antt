-- What arrived first stays.
use Rattle.std.proofs.Common.{◌≡◌, ◌≢◌, ℕ, ◌<◌, ◌==◌, Bool, true, false, cond, List, [], ◌∷◌, Option, Some, None, is_some, IsSome, length, get_or, set, sym, subst, ap, ◌∙◌, refl, replicate, get_or-set_same, get_or-set_other, eqb, eqb-true, option_map, find}
use Rattle.std.specs.List.{FoldsTo}
use Rattle.std.specs.Option.{option_or}
use Rattle.std.proofs.lemmas.List.{get_or-replicate}
use Rattle.std.proofs.lemmas.Bool.{eqb-false}
use Rattle.std.proofs.Math.ListN.{length-set}
use Rattle.qtc_chain.specs.Arrivals.{IsArrived}
use Rattle.qtc_chain.specs.Laws.{Arrives, ArrivesFirst, AtAll, AtAny, FirstArrivalCounts, FirstArrivalsCount, first_at}

no_some : (T : Type 0) → is_some {T = T} None ≡ true → ⊥
no_some T e = cc

module _ {T : Type 0} where
  stays : (first : ℕ × T) (calls : List (AtAny T)) (last : Option (ℕ × T)) → FoldsTo ArrivesFirst (Some first) calls last → last ≡ Some first
  stays first [] last e = sym e
  stays first (call ∷ calls) last told = stays first calls last (subst (λ s. FoldsTo ArrivesFirst s calls last) told.1.after told.2)

  pub first_counts : FirstArrivalCounts T
  first_counts [] last e = sym e
  first_counts (call ∷ calls) last told =
      stays (call.index, call.value) calls last (subst (λ s. FoldsTo ArrivesFirst s calls last) told.1.after told.2)

  or_none : (slot : Option T) → slot ≡ option_or slot None
  or_none None = refl
  or_none (Some x) = refl

  same_or : (slot a b : Option T) → IsSome slot → option_or slot a ≡ option_or slot b
  same_or None a b here = cc
  same_or (Some x) a b here = refl

  -- what stands at an index after one arrival and others is what stood there, or the first that arrives there
  module _ (call : AtAll T) (old : List (Option T)) (within : call.index < length old) (index : ℕ) (rest : Option (AtAll T)) where
    abbrev Ends : List (Option T) → Bool → Type 0
    Ends new b = option_or (get_or new index None) (option_map (λ (c : AtAll T). c.value) rest)
        ≡ option_or (get_or old index None) (option_map (λ (c : AtAll T). c.value) (cond b (Some call) rest))

    where_new : (b : Bool) → eqb call.index index ≡ b → get_or old call.index None ≡ None
        → Ends (set old call.index (Some call.value)) b
    where_new true e none =
        let same : call.index ≡ index = eqb-true _ _ e in
        let now : get_or (set old call.index (Some call.value)) index None ≡ Some call.value =
        subst (λ i. get_or (set old call.index (Some call.value)) i None ≡ Some call.value) same
        (get_or-set_same old call.index (Some call.value) None within) in
        let was : get_or old index None ≡ None = subst (λ i. get_or old i None ≡ None) same none in
        ap (λ s. option_or s (option_map (λ (c : AtAll T). c.value) rest)) now ∙ sym (ap (λ s. option_or s (Some call.value)) was)
    where_new false e none =
        let other : index ≢ call.index = λ is. eqb-false _ _ e (sym is) in
        ap (λ s. option_or s (option_map (λ (c : AtAll T). c.value) rest)) (get_or-set_other old call.index index (Some call.value) None other)

    where_old : (b : Bool) → eqb call.index index ≡ b → IsSome (get_or old call.index None) → Ends old b
    where_old true e some =
        let same : call.index ≡ index = eqb-true _ _ e in
        same_or (get_or old index None) _ _ (subst (λ i. IsSome (get_or old i None)) same some)
    where_old false e some = refl

    step_ends : (new : List (Option T)) → IsArrived call.index call.value old new call.answer → Ends new (eqb call.index index)
    step_ends new arrived =
        let by : (slot : Option T) → get_or old call.index None ≡ slot → Ends new (eqb call.index index) =
        λ slot. elim slot as (λ slot. get_or old call.index None ≡ slot → Ends new (eqb call.index index)) [
          | None ↦ λ none.
              let after = arrived.stored (λ here. no_some T (subst IsSome none here)) in
              subst (λ n. Ends n (eqb call.index index)) (sym after) (where_new _ refl none)
          | Some x ↦ λ some.
              let here : IsSome (get_or old call.index None) = subst IsSome (sym some) refl in
              subst (λ n. Ends n (eqb call.index index)) (sym (arrived.same here)) (where_old _ refl here)
        ] in
        by (get_or old call.index None) refl

    stays_long : (new : List (Option T)) → IsArrived call.index call.value old new call.answer → length new ≡ length old
    stays_long new arrived =
        let by : (slot : Option T) → get_or old call.index None ≡ slot → length new ≡ length old =
        λ slot. elim slot as (λ slot. get_or old call.index None ≡ slot → length new ≡ length old) [
          | None ↦ λ none.
              ap length (arrived.stored (λ here. no_some T (subst IsSome none here))) ∙ length-set old call.index (Some call.value)
          | Some x ↦ λ some. ap length (arrived.same (subst IsSome (sym some) refl))
        ] in
        by (get_or old call.index None) refl

  from : (old : List (Option T)) (calls : List (AtAll T)) (last : List (Option T)) → FoldsTo Arrives old calls last
      → (index : ℕ) → get_or last index None ≡ option_or (get_or old index None) (first_at index calls)
  from old [] last e index = ap (λ s. get_or s index None) (sym e) ∙ or_none (get_or old index None)
  from old (call ∷ calls) last told index =
      from told.0 calls last told.2 index
      ∙ step_ends call old told.1.0 index (find (λ c. c.index == index) calls) told.0 told.1.1

  pub firsts_count : FirstArrivalsCount T
  firsts_count n calls last told index below =
      from (replicate n None) calls last told index ∙ ap (λ s. option_or s (first_at index calls)) (get_or-replicate n index None None below)

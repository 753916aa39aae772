-- Each step of a lock keeps its rule, and what a lock has at its end.
use Rattle.std.proofs.Common.{◌≡◌, ℕ, ◌+◌, cond, List, [], ◌∷◌, get_or, set, sym, refl, ap, ◌∙◌, subst, arith, Option, Some, inl, inr, All}
use Rattle.std.proofs.lemmas.List.Elements.{All-set}
use mathlib.Core.Option as maybe
use mathlib.Core.Option.{none, some, some-injective, some-ne-none}
use lib.ListN.{get_elem?}
use Rattle.atomic_table.specs.Table.{State, Me, keeps, takes, gives, Allows, Arrives, Final}
use Rattle.qtc_lock.specs.declared.rule.View.{View}
use Rattle.qtc_lock.proofs.Views.{All-snoc, sum_by-set_view, sum_by-snoc}
use Rattle.qtc_lock.specs.Rule.{idle, holding, HasKey, holders, IsFree, IsTaken, IsKept, Tries, Puts}

-- what a view adds to the count of those that are holding
abbrev one : {K : Type 0} → View K → ℕ
one view = cond view.holding 1 0

module _ {S K : Type 0} (fits : K → S → Type 0) (key : K) (s : State (Option S) (View K)) (views : List (View K)) (keyed : All (HasKey key) views) where
  -- 1 was swapped in for 0, and the value is out with the one view that is holding
  taken_now : IsFree fits key s → holders views ≡ 1 → IsKept fits key record { words = set s.words 0 1; homes = set s.homes 0 none; views = views }
  taken_now free one_holds = record {
    keyed = keyed;
    either = inr record {
      word = ap (λ (ws : List ℕ). set ws 0 1) free.word;
      out = ap (λ (hs : List (maybe.Option (Option S))). set hs 0 none) free.home.1;
      one = one_holds;
    };
  }

  -- 1 was swapped in for 1
  taken_still : IsTaken s → holders views ≡ 1 → IsKept fits key record { words = set s.words 0 1; homes = s.homes; views = views }
  taken_still taken one_holds = record {
    keyed = keyed;
    either = inr record { word = ap (λ (ws : List ℕ). set ws 0 1) taken.word; out = taken.out; one = one_holds };
  }

module _ {S K : Type 0} (fits : K → S → Type 0) (key : K) (slots : ℕ) where
  module _ (s : State (Option S) (View K)) where
    wins : (free : IsFree fits key s) → Tries fits (idle key, []) (get_or s.words 0 0) (holding key, (0, Some free.home.0) ∷ [])
    wins free = (
      (λ _. record { view = refl; value = (free.home.0, refl, free.home.2) }),
      (λ away. absurd (away (ap (λ (ws : List ℕ). get_or ws 0 0) free.word))),
    )

    fails : IsTaken s → Tries fits (idle key, []) (get_or s.words 0 0) (idle key, [])
    fails taken = (
      (λ found. let is : get_or s.words 0 0 ≡ 1 = ap (λ (ws : List ℕ). get_or ws 0 0) taken.word in absurd (omega arith)),
      (λ _. refl),
    )

    there : (free : IsFree fits key s) → get_elem? s.homes 0 ≡ some (some (Some free.home.0))
    there free = ap (λ (hs : List (maybe.Option (Option S))). get_elem? hs 0) free.home.1

  from_idle : (id : ℕ) → Allows (IsKept fits key) slots id (idle key, []) 0 (λ _. 1) (Tries fits (idle key, []))
  from_idle id s kept long me wide =
      let count : (w : View K) → holders (set s.views id w) + 0 ≡ holders s.views + one w = λ (w : View K). sum_by-set_view one s.views id (idle key) w me in
      let keyed : (w : View K) → w.key ≡ key → All (HasKey key) (set s.views id w) = λ (w : View K) is. All-set (HasKey key) s.views id w is kept.keyed in
      elim kept.either [
        | inl free ↦ (
          holding key,
          takes 0 (Some free.home.0),
          there s free,
          taken_now fits key s _ (keyed (holding key) refl) free (let n = free.nobody in omega (arith, count (holding key))),
          wins s free,
        )
        | inr taken ↦ (
          idle key,
          keeps,
          tt,
          taken_still fits key s _ (keyed (idle key) refl) taken (let n = taken.one in omega (arith, count (idle key))),
          fails s taken,
        )
      ]

  -- a seat that is idle swaps 1 in
  pub tries : (id : ℕ) (m : Me (Option S) (View K)) → m ≡ (idle key, []) → Allows (IsKept fits key) slots id m 0 (λ _. 1) (Tries fits m)
  tries id m is = subst (λ (x : Me (Option S) (View K)). Allows (IsKept fits key) slots id x 0 (λ _. 1) (Tries fits x)) (sym is) (from_idle id)

  -- a new seat swaps 1 in
  pub arrives : Arrives (IsKept fits key) slots 0 (λ _. 1) (Tries fits (idle key, []))
  arrives s kept long wide = elim kept.either [
    | inl free ↦ (
      holding key,
      takes 0 (Some free.home.0),
      there s free,
      taken_now fits key s _ (All-snoc (HasKey key) s.views (holding key) refl kept.keyed) free (let n = free.nobody in omega (arith, sum_by-snoc one s.views (holding key))),
      wins s free,
    )
    | inr taken ↦ (
      idle key,
      keeps,
      tt,
      taken_still fits key s _ (All-snoc (HasKey key) s.views (idle key) refl kept.keyed) taken (let n = taken.one in omega (arith, sum_by-snoc one s.views (idle key))),
      fails s taken,
    )
  ]

  from_holding : (id : ℕ) (value : S) → fits key value → Allows (IsKept fits key) slots id (holding key, (0, Some value) ∷ []) 0 (λ _. 0) (λ _. Puts (holding key, (0, Some value) ∷ []) 0)
  from_holding id value ok s kept long me wide = let count = sum_by-set_view one s.views id (holding key) (idle key) me in elim kept.either [
    | inl free ↦ (let n = free.nobody in absurd (omega arith))
    | inr taken ↦ (
      idle key,
      gives,
      tt,
      record {
        keyed = All-set (HasKey key) s.views id (idle key) refl kept.keyed;
        either = inl record {
          word = ap (λ (ws : List ℕ). set ws 0 0) taken.word;
          home = (value, ap (λ (hs : List (maybe.Option (Option S))). set hs 0 (some (Some value))) taken.out, ok);
          nobody = let n = taken.one in omega arith;
        };
      },
      refl,
    )
  ]

  -- the seat that is holding stores 0, and gives back a value that fits
  pub puts : (id : ℕ) (m : Me (Option S) (View K)) (value : S) → m ≡ (holding key, (0, Some value) ∷ []) → fits key value
      → Allows (IsKept fits key) slots id m 0 (λ _. 0) (λ _. Puts m 0)
  puts id m value is ok = subst (λ (x : Me (Option S) (View K)). Allows (IsKept fits key) slots id x 0 (λ _. 0) (λ _. Puts x 0)) (sym is) (from_holding id value ok)

one≢zero : (n m : ℕ) → n ≡ 1 → m ≡ 0 → n ≡ m → ⊥
one≢zero n m one_is zero_is same = omega arith

module _ {S K : Type 0} (fits : K → S → Type 0) (key : K) (words : List ℕ) (slots : List (Option S)) where
  -- where the word is 0 at the end, the slot has a value that fits
  pub ends : (slot : Option S) → Final (IsKept fits key) words slots → get_elem? words 0 ≡ some 0 → get_elem? slots 0 ≡ some slot → (value : S) × (slot ≡ Some value) × fits key value
  ends slot last zero_word found = let s = last.0 in elim last.1.either [
    | inl free ↦ (
      free.home.0,
      some-injective _ _ (sym found ∙ last.4 0 (Some free.home.0) (ap (λ (hs : List (maybe.Option (Option S))). get_elem? hs 0) free.home.1)),
      free.home.2,
    )
    | inr taken ↦ (
        let is : words ≡ 1 ∷ [] = sym last.2 ∙ taken.word in
        let one_word : some 1 ≡ some 0 = sym (ap (λ (ws : List ℕ). get_elem? ws 0) is) ∙ zero_word in absurd (one≢zero 1 0 refl refl (some-injective 1 0 one_word))
        )
  ]

  pub ends_with : (value : S) → Final (IsKept fits key) words slots → get_elem? words 0 ≡ some 0 → get_elem? slots 0 ≡ some (Some value) → fits key value
  ends_with value last zero_word found = let end = ends (Some value) last zero_word found in let same : end.0 ≡ value = cc (end.1) in subst (fits key) same end.2

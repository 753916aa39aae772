-- The kept pairs of a range.
use Rattle.std.proofs.Common.{◌≡◌, ℕ, zero, suc, ◌+◌, ◌-◌, ◌≤◌, ◌<◌, Bool, true, false, ◌&&◌, cond, leb, ltb, List, [], ◌∷◌, ◌++◌, length, take, drop, get_or, Option, Some, None, unwrap_or, ◌⊎◌, inl, inr, ⊎_elim, refl, sym, ap, ◌∙◌, add-zero, arith}
use Rattle.std.specs.Prelude.{filter, slice_range}
use Rattle.std.specs.List.{Contains, cons_option, enumerate_from, filter_map}
use Rattle.std.proofs.lemmas.Bool.{le-leb, lt-ltb, lt-leb, le-ltb, and_from, and_left, and_right}
use Rattle.qtc_ops.specs.ItemValue.{ItemValue, kept, dropped, bad}
use Rattle.qtc_ops.specs.Kept.{fails, fails_at, kept_pair, pairs, pairs_between, pairs_from}

abbrev within : ℕ → ℕ → ℕ × List ℕ → Bool
within begin end pair = leb begin pair.0 && ltb pair.0 end

-- a pair in the range stays, and another goes
filter-in : (begin end index : ℕ) (v : ItemValue) (more : List (ℕ × List ℕ)) → begin ≤ index → index < end → filter (within begin end) (cons_option (kept_pair index v) more) ≡ cons_option (kept_pair index v) (filter (within begin end) more)
filter-in begin end index (kept text) more low high = rw (and_from _ _ (le-leb begin index low) (lt-ltb index end high)) refl
filter-in begin end index dropped more low high = refl
filter-in begin end index bad more low high = refl

filter-out : (begin end index : ℕ) (v : ItemValue) (more : List (ℕ × List ℕ)) → within begin end (index, []) ≡ false → filter (within begin end) (cons_option (kept_pair index v) more) ≡ filter (within begin end) more
filter-out begin end index (kept text) more out = rw out refl
filter-out begin end index dropped more out = refl
filter-out begin end index bad more out = refl

module _ (value : List ℕ → ItemValue) (begin end : ℕ) where
  -- nothing of the range is left
  none-left : (first : ℕ) (items : List (List ℕ)) → end ≤ first → filter (within begin end) (pairs_from value first items) ≡ []
  none-left first [] past = refl
  none-left first (item ∷ items) past =
      filter-out begin end first (value item) (pairs_from value (first + 1) items) (and_right _ _ (le-ltb first end past)) ∙ none-left (first + 1) items (omega arith)

  -- the range begins at or before the first of these items
  some-left : (first : ℕ) (items : List (List ℕ)) (count : ℕ) → begin ≤ first → end ≡ first + count → count ≤ length items → filter (within begin end) (pairs_from value first items) ≡ pairs_from value first (take count items)
  some-left first items zero low is few = none-left first items (omega arith)
  some-left first [] (suc count) low is few = absurd (omega arith)
  some-left first (item ∷ items) (suc count) low is few =
      filter-in begin end first (value item) (pairs_from value (first + 1) items) low (omega arith)
      ∙ ap (cons_option (kept_pair first (value item))) (some-left (first + 1) items count (omega arith) (omega arith) (omega arith))

  skipped : (first : ℕ) (items : List (List ℕ)) (skip count : ℕ) → begin ≡ first + skip → end ≡ begin + count → skip + count ≤ length items → filter (within begin end) (pairs_from value first items) ≡ pairs_from value begin (take count (drop skip items))
  skipped first items zero count at is few =
      some-left first items count (omega arith) (omega arith) (omega arith) ∙ ap (λ n. pairs_from value n (take count items)) (omega arith)
  skipped first [] (suc skip) count at is few = absurd (omega arith)
  skipped first (item ∷ items) (suc skip) count at is few =
      filter-out begin end first (value item) (pairs_from value (first + 1) items) (and_left _ _ (lt-leb begin first (omega arith)))
      ∙ skipped (first + 1) items skip count (omega arith) is (omega arith)

pub pairs_between-range : (value : List ℕ → ItemValue) (items : List (List ℕ)) (begin end : ℕ) → begin ≤ end → end ≤ length items → pairs_between value items begin end ≡ pairs_from value begin (slice_range items begin end)
pairs_between-range value items begin end low high = skipped value begin end 0 items begin (end - begin) (omega arith) (omega arith) (omega arith)

-- ---- what the lists contain

-- the first of a list is what the first item gives, if it gives anything
contains-first : {Y : Type 0} (o : Option Y) (rest : List Y) (y : Y) → Contains (cons_option o rest) y → (o ≡ Some y) ⊎ Contains rest y
contains-first None rest y c = inr c
contains-first (Some x) rest y (zero, lt, is) = inl (ap Some is)
contains-first (Some x) rest y (suc k, lt, is) = inr (k, omega arith, is)

contains-here : {Y : Type 0} (o : Option Y) (rest : List Y) (y : Y) → o ≡ Some y → Contains (cons_option o rest) y
contains-here None rest y is = cc
contains-here (Some x) rest y is = (0, omega arith, cc)

contains-later : {Y : Type 0} (o : Option Y) (rest : List Y) (y : Y) → Contains rest y → Contains (cons_option o rest) y
contains-later None rest y c = c
contains-later (Some x) rest y (k, lt, is) = (suc k, omega arith, is)

module _ {Y : Type 0} (pick : ℕ → List ℕ → Option Y) where
  picked-to : (first : ℕ) (items : List (List ℕ)) (y : Y) → Contains (filter_map (λ item. pick item.0 item.1) (enumerate_from first items)) y → (k : ℕ) × (k < length items) × (pick (first + k) (get_or items k []) ≡ Some y)
  picked-to first [] y c = absurd (omega (arith, c.1))
  picked-to first (item ∷ items) y c =
      ⊎_elim
      (λ here. (0, omega arith, ap (λ n. pick n item) (add-zero first) ∙ here))
      (λ later.
      let there = picked-to (first + 1) items y later in
      let at : first + suc there.0 ≡ first + 1 + there.0 = omega arith in
      (suc there.0, omega (arith, there.1), ap (λ n. pick n (get_or items there.0 [])) at ∙ there.2))
      (contains-first (pick first item) _ y c)

  picked-from : (first : ℕ) (items : List (List ℕ)) (y : Y) (k : ℕ) → k < length items → pick (first + k) (get_or items k []) ≡ Some y → Contains (filter_map (λ item. pick item.0 item.1) (enumerate_from first items)) y
  picked-from first [] y k lt is = absurd (omega arith)
  picked-from first (item ∷ items) y zero lt is =
      contains-here (pick first item) _ y (sym (ap (λ n. pick n item) (add-zero first)) ∙ is)
  picked-from first (item ∷ items) y (suc k) lt is =
      let at : first + 1 + k ≡ first + suc k = omega arith in
      contains-later (pick first item) _ y (picked-from (first + 1) items y k (omega arith) (ap (λ n. pick n (get_or items k [])) at ∙ is))

-- what a kept pair tells
kept_pair-tells : (index : ℕ) (v : ItemValue) (i : ℕ) (text : List ℕ) → kept_pair index v ≡ Some (i, text) → (index ≡ i) × (v ≡ kept text)
kept_pair-tells index (kept t) i text e =
    let pair = ap (λ o. unwrap_or o (0, [])) e in (ap (λ (p : ℕ × List ℕ). p.0) pair, ap (λ (p : ℕ × List ℕ). kept p.1) pair)
kept_pair-tells index dropped i text e = cc
kept_pair-tells index bad i text e = cc

pub pairs-contain : (value : List ℕ → ItemValue) (items : List (List ℕ)) (index : ℕ) (text : List ℕ) → (Contains (pairs value items) (index, text) → (index < length items) × (value (get_or items index []) ≡ kept text))
    × (((index < length items) × (value (get_or items index []) ≡ kept text)) → Contains (pairs value items) (index, text))
pairs-contain value items index text = (
  λ c.
      let found = picked-to (λ n item. kept_pair n (value item)) 0 items (index, text) c in
      let tells = kept_pair-tells (0 + found.0) (value (get_or items found.0 [])) index text found.2 in
      let same : found.0 ≡ index = omega (arith, tells.0) in
      (omega (arith, found.1), ap (λ n. value (get_or items n [])) (sym same) ∙ tells.1),
  λ h. picked-from (λ n item. kept_pair n (value item)) 0 items (index, text) index h.0 (ap (kept_pair (0 + index)) h.1 ∙ ap (λ n. Some (n, text)) (omega arith)),
)

cond-tells : (b : Bool) (n i : ℕ) → cond b (Some n) None ≡ Some i → (b ≡ true) × (n ≡ i)
cond-tells true n i e = (refl, cc)
cond-tells false n i e = cc

pub fails-contain : (value : List ℕ → ItemValue) (refuses : List ℕ → Bool) (items : List (List ℕ)) (index : ℕ) → (Contains (fails value refuses items) index → (index < length items) × (fails_at refuses (value (get_or items index [])) ≡ true))
    × (((index < length items) × (fails_at refuses (value (get_or items index [])) ≡ true)) → Contains (fails value refuses items) index)
fails-contain value refuses items index = (
  λ c.
      let found = picked-to (λ n item. cond (fails_at refuses (value item)) (Some n) None) 0 items index c in
      let tells = cond-tells (fails_at refuses (value (get_or items found.0 []))) (0 + found.0) index found.2 in
      let same : found.0 ≡ index = omega (arith, tells.1) in
      (omega (arith, found.1), ap (λ n. fails_at refuses (value (get_or items n []))) (sym same) ∙ tells.0),
  λ h. picked-from (λ n item. cond (fails_at refuses (value item)) (Some n) None) 0 items index index h.0 (rw h.1 (ap Some (omega arith))),
)

-- ---- one list after another

cons_option-append : {Y : Type 0} (o : Option Y) (xs ys : List Y) → cons_option o (xs ++ ys) ≡ cons_option o xs ++ ys
cons_option-append None xs ys = refl
cons_option-append (Some x) xs ys = refl

pub pairs_from-append : (value : List ℕ → ItemValue) (first : ℕ) (xs ys : List (List ℕ)) → pairs_from value first (xs ++ ys) ≡ pairs_from value first xs ++ pairs_from value (first + length xs) ys
pairs_from-append value first [] ys = ap (λ n. pairs_from value n ys) (sym (add-zero first))
pairs_from-append value first (x ∷ xs) ys =
    let at : first + 1 + length xs ≡ first + suc (length xs) = omega arith in
    ap (cons_option (kept_pair first (value x))) (pairs_from-append value (first + 1) xs ys ∙ ap (λ n. pairs_from value (first + 1) xs ++ pairs_from value n ys) at)
    ∙ cons_option-append (kept_pair first (value x)) (pairs_from value (first + 1) xs) (pairs_from value (first + suc (length xs)) ys)

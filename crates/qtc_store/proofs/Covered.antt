-- Which indexes batches cover.
use Rattle.std.proofs.Common.{◌≡◌, ℕ, zero, suc, ◌+◌, ◌<◌, ◌≤◌, max, true, false, nat_lt, List, [], ◌∷◌, Option, Some, None, if◌then◌else◌, inl, inr, refl, sym, ◌∙◌, arith}
use Rattle.std.specs.List.{find, range_with_len}
use Rattle.std.proofs.lemmas.Bool.{cases_lt}
use Rattle.std.proofs.lemmas.Bool.Decides.{nat_tests}
use Rattle.qtc_store.specs.declared.batch.Batch.{Batch}
use Rattle.qtc_store.specs.Batches.{end_of, covers, is_covered, least_covered, AreApart}

-- ---- batches apart
pub apart_lower : {V : Type 0} (low low' : ℕ) (batches : List (Batch V)) → low ≤ low' → AreApart low' batches → AreApart low batches
apart_lower low low' [] h a = tt
apart_lower low low' (b ∷ batches) h a = (omega (arith, a.0), a.1, a.2)

-- an index below all of them
pub none_below : {V : Type 0} (low index : ℕ) (batches : List (Batch V)) → AreApart low batches → index < low → is_covered batches index ≡ false
none_below low index [] a h = refl
none_below low index (b ∷ batches) a h =
    let rest = none_below (end_of b) index batches a.2 (omega (arith, a.0)) in
    let out : covers index b ≡ false = grind (arith, nat_tests, a.0) in
    rw (out, rest) refl

-- ---- the least covered index of a range
past_batch : {V : Type 0} (b : Batch V) (batches : List (Batch V)) (begin total : ℕ) → end_of b ≤ begin → find (is_covered (b ∷ batches)) (range_with_len begin total) ≡ find (is_covered batches) (range_with_len begin total)
past_batch b batches begin zero h = refl
past_batch b batches begin (suc total) h =
    let out : covers begin b ≡ false = grind (arith, nat_tests) in
    rw (out, past_batch b batches (begin + 1) total (omega arith)) refl

pub least_covered-past : {V : Type 0} (b : Batch V) (batches : List (Batch V)) (begin total : ℕ) → end_of b ≤ begin → least_covered (b ∷ batches) begin total ≡ least_covered batches begin total
least_covered-past b batches begin total h = past_batch b batches begin total h

-- the first of the batches that ends past `begin` covers the least index, if it begins in time
hit_before : {V : Type 0} (b : Batch V) (batches : List (Batch V)) (low begin total : ℕ) → AreApart low (b ∷ batches) → begin < b.begin → is_covered (b ∷ batches) begin ≡ false
hit_before b batches low begin total a h =
    let out : covers begin b ≡ false = grind (arith, nat_tests) in
    let rest = none_below (end_of b) begin batches a.2 (omega arith) in
    rw (out, rest) refl

hit_within : {V : Type 0} (b : Batch V) (batches : List (Batch V)) (begin : ℕ) → b.begin ≤ begin → begin < end_of b → is_covered (b ∷ batches) begin ≡ true
hit_within b batches begin low high =
    let inside : covers begin b ≡ true = grind (arith, nat_tests) in
    rw inside refl

abbrev pub first_of : ℕ → ℕ → Option ℕ
first_of first end = if nat_lt first end then Some first else None

first_of-none : (first end : ℕ) → end ≤ first → first_of first end ≡ None
first_of-none first end h = grind (arith, nat_tests)

first_of-some : (first end : ℕ) → first < end → first_of first end ≡ Some first
first_of-some first end h = grind (arith, nat_tests)

pub hit : {V : Type 0} (b : Batch V) (batches : List (Batch V)) (low begin total : ℕ) → AreApart low (b ∷ batches) → begin < end_of b → find (is_covered (b ∷ batches)) (range_with_len begin total) ≡ first_of (max b.begin begin) (begin + total)
hit b batches low begin zero a h = sym (first_of-none (max b.begin begin) (begin + 0) (omega arith))
hit b batches low begin (suc total) a h =
    elim (cases_lt begin b.begin) [
      | inl before ↦
          let out = hit_before b batches low begin total a before in
          let rest = hit b batches low (begin + 1) total a (omega (arith, a.1)) in
          let same : max b.begin (begin + 1) ≡ max b.begin begin = omega arith in
          let end : begin + 1 + total ≡ begin + suc total = omega arith in
          rw out (rest ∙ rw (same, end) refl)
      | inr within ↦
          let inside = hit_within b batches begin within h in
          let same : max b.begin begin ≡ begin = omega arith in
          rw (inside, same) (sym (first_of-some begin (begin + suc total) (omega arith)))
    ]

pub least_covered-nil : (V : Type 0) (begin total : ℕ) → least_covered {V = V} [] begin total ≡ None
least_covered-nil V begin zero = refl
least_covered-nil V begin (suc total) = least_covered-nil V (begin + 1) total

-- The first index without a result.
use Rattle.std.proofs.Common.{◌≡◌, ℕ, ◌+◌, ◌<◌, ◌≤◌, max, Bool, true, false, ◌||◌, List, [], ◌∷◌, ◌++◌, length, All, Option, Some, None, is_some, inl, inr, refl, ap, ◌∙◌, eq-eqb, arith}
use Rattle.std.specs.List.{range_with_len, flat_map, enumerate_from}
use Rattle.std.specs.Ordering.{nat_cmp}
use Rattle.std.specs.FinMap.{find, get, contains_key}
use Rattle.std.proofs.lemmas.Bool.{cases_lt, ne_eqb, cases_eq}
use Rattle.std.proofs.lemmas.Bool.Decides.{nat_tests}
use Rattle.std.proofs.lemmas.List.Elements.{All-head, All-tail, All-weaker}
use Rattle.std.proofs.lemmas.List.FromFn.{get_or-range_with_len, length-range_with_len}
use Rattle.std.proofs.lemmas.List.Sums.{prefix_len_is}
use Rattle.std.proofs.lemmas.List.Folds.{length-prefix_len}
use Rattle.qtc_store.specs.declared.batch.Batch.{Batch}
use Rattle.qtc_store.specs.Batches.{end_of, covers, is_covered, greatest_end, AreApart, IsWhole}
use Rattle.qtc_store.specs.Stored.{IsStore, IsFirstGap, count_of}
use Rattle.qtc_store.proofs.Meeting.{meeting_end-next, meeting_end-stop}
use Rattle.qtc_store.specs.Results.{cells_of, results, result_count}
use Rattle.qtc_store.specs.Visible.{meeting_end}
use Rattle.qtc_store.proofs.Covered.{none_below}
use Rattle.qtc_store.proofs.Cells.{find-before, find-past, find-at, results_found}

or_true : (b : Bool) → (b || true) ≡ true
or_true true = refl
or_true false = refl

-- ---- in plain mode the map has just the covered indexes
abbrev pub IsFull : {V : Type 0} → Batch V → Type 0
IsFull b = length b.values ≡ b.total

found_within : {V : Type 0} (q begin : ℕ) (values : List V) (es : List (ℕ × V)) → begin ≤ q → q < begin + length values → is_some (find nat_cmp q (enumerate_from begin values ++ es)) ≡ true
found_within q begin [] es low high = absurd (omega arith)
found_within q begin (v ∷ values) es low high = ap is_some (find-at q begin (v ∷ values) es v low high)

pub found_covered : {V : Type 0} (q : ℕ) (batches : List (Batch V)) → All IsFull batches → is_some (find nat_cmp q (flat_map cells_of batches)) ≡ is_covered batches q
found_covered q [] full = refl
found_covered {V = V} q (b ∷ batches) full =
    let rest = found_covered q batches (All-tail (IsFull {V = V}) b batches full) in
    let whole = All-head (IsFull {V = V}) b batches full in
    elim (cases_lt q b.begin) [
      | inl before ↦
          let out : covers q b ≡ false = grind (arith, nat_tests) in
          rw (find-before q b.begin b.values (flat_map cells_of batches) before, out) rest
      | inr after ↦ elim (cases_lt q (end_of b)) [
        | inl within ↦
            let inside : covers q b ≡ true = grind (arith, nat_tests) in
            rw inside (found_within q b.begin b.values (flat_map cells_of batches) after (omega arith))
        | inr past ↦
            let out : covers q b ≡ false = grind (arith, nat_tests) in
            rw (find-past q b.begin b.values (flat_map cells_of batches) (omega arith), out) rest
      ]
    ]

-- ---- where the batches that meet end
pub meeting_end-low : {V : Type 0} (low : ℕ) (batches : List (Batch V)) → low ≤ meeting_end low batches
meeting_end-low low [] = omega arith
meeting_end-low low (b ∷ batches) =
    elim (cases_eq b.begin low) [
      | inl same ↦ rw (eq-eqb b.begin low same) (omega (arith, meeting_end-low (end_of b) batches))
      | inr other ↦ rw (ne_eqb b.begin low other) (omega arith)
    ]

pub meeting_end-le : {V : Type 0} (low : ℕ) (batches : List (Batch V)) → meeting_end low batches ≤ max low (greatest_end batches)
meeting_end-le low [] = omega arith
meeting_end-le low (b ∷ batches) =
    elim (cases_eq b.begin low) [
      | inl same ↦ rw (eq-eqb b.begin low same) (omega (arith, meeting_end-le (end_of b) batches))
      | inr other ↦ rw (ne_eqb b.begin low other) (omega arith)
    ]

pub meeting_covered : {V : Type 0} (low index : ℕ) (batches : List (Batch V)) → low ≤ index → index < meeting_end low batches → is_covered batches index ≡ true
meeting_covered low index [] above below = absurd (omega arith)
meeting_covered low index (b ∷ batches) above below =
    elim (cases_eq b.begin low) [
      | inl same ↦
          let below' = rw (eq-eqb b.begin low same) at below in
          elim (cases_lt index (end_of b)) [
            | inl within ↦ let inside : covers index b ≡ true = grind (arith, nat_tests) in rw inside refl
            | inr past ↦ let rest = meeting_covered (end_of b) index batches past below' in rw rest (or_true (covers index b))
          ]
      | inr other ↦ let below' = rw (ne_eqb b.begin low other) at below in absurd (omega arith)
    ]

pub end_uncovered : {V : Type 0} (low : ℕ) (batches : List (Batch V)) → AreApart low batches → is_covered batches (meeting_end low batches) ≡ false
end_uncovered low [] a = refl
end_uncovered low (b ∷ batches) a =
    elim (cases_eq b.begin low) [
      | inl same ↦
          let rest = end_uncovered (end_of b) batches a.2 in
          let above = meeting_end-low (end_of b) batches in
          let out : covers (meeting_end (end_of b) batches) b ≡ false = grind (arith, nat_tests) in
          ap (is_covered (b ∷ batches)) (meeting_end-next b batches low same) ∙ rw out rest
      | inr other ↦
          let less : low < b.begin = omega (arith, a.0) in
          let rest = none_below (end_of b) low batches a.2 (omega (arith, a.1)) in
          let out : covers low b ≡ false = grind (arith, nat_tests) in
          ap (is_covered (b ∷ batches)) (meeting_end-stop b batches low other) ∙ rw out rest
    ]

-- ---- the count of a plain store
pub has_result : {V : Type 0} (batches : List (Batch V)) (index : ℕ) → All IsFull batches → is_some (get (results batches) index) ≡ is_covered batches index
has_result batches index full = ap is_some (results_found batches index) ∙ found_covered index batches full

pub result_count-meeting : {V : Type 0} (batches : List (Batch V)) → AreApart 0 batches → All IsFull batches → result_count batches ≡ meeting_end 0 batches
result_count-meeting batches apart full =
    let n = greatest_end batches in
    let end = meeting_end 0 batches in
    let indexes = range_with_len 0 n in
    let within : end ≤ n = omega (arith, meeting_end-le 0 batches) in
    let len = length-range_with_len 0 n in
    length-prefix_len (contains_key (results batches)) indexes
    ∙ prefix_len_is (contains_key (results batches)) indexes end 0 (omega (arith, len, within))
    (λ k below. ap (contains_key (results batches)) (get_or-range_with_len 0 n k 0 (omega (arith, within)) ∙ omega arith) ∙ has_result batches k full ∙ meeting_covered 0 k batches (omega arith) below)
    (λ less. ap (contains_key (results batches)) (get_or-range_with_len 0 n end 0 (omega (arith, len)) ∙ omega arith) ∙ has_result batches end full ∙ end_uncovered 0 batches apart)

pub full_from : {V : Type 0} (batches : List (Batch V)) → All (IsWhole false) batches → All IsFull batches
full_from {V = V} batches whole = All-weaker (IsWhole {V = V} false) (IsFull {V = V}) (λ b w. w.whole refl) batches whole

pub none_from : {V : Type 0} (o : Option V) → is_some o ≡ false → o ≡ None
none_from None e = refl
none_from (Some v) e = absurd (cc)

-- ---- what a plain store's count says
module _ {V : Type 0} (batches : List (Batch V)) (store : IsStore false batches) where
  pub plain_count : count_of (record { filter = false; batches = batches }) ≡ meeting_end 0 batches
  plain_count = result_count-meeting batches store.apart (full_from batches store.whole)

  pub plain_gap : IsFirstGap (record { filter = false; batches = batches }) (meeting_end 0 batches)
  plain_gap = record {
    below = λ index less. has_result batches index (full_from batches store.whole) ∙ meeting_covered 0 index batches (omega arith) less;
    gap = none_from _ (has_result batches (meeting_end 0 batches) (full_from batches store.whole) ∙ end_uncovered 0 batches store.apart);
  }

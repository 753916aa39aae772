-- A batch put in its place keeps what is true of the batches.
use Rattle.std.proofs.Common.{◌≡◌, ℕ, zero, suc, ◌+◌, ◌<◌, ◌≤◌, max, Bool, true, false, ◌||◌, nat_lt, List, [], ◌∷◌, All, Some, None, inl, inr, cond, refl, ap, sym, ◌∙◌, subst, arith}
use Rattle.std.specs.List.{find, range_with_len}
use Rattle.std.proofs.lemmas.Bool.{cases_lt}
use Rattle.std.proofs.lemmas.Bool.Decides.{nat_tests}
use Rattle.std.proofs.lemmas.List.Elements.{All-cons, All-head, All-tail}
use Rattle.qtc_store.specs.declared.batch.Batch.{Batch}
use Rattle.qtc_store.specs.Batches.{end_of, covers, is_covered, least_covered, greatest_end, placed, AreApart, IsWhole}
use Rattle.qtc_store.specs.Stored.{IsStore}

-- ---- no index of the range is covered
none_found : (p : ℕ → Bool) (low n i : ℕ) → find p (range_with_len low n) ≡ None → low ≤ i → i < low + n → p i ≡ false
none_found p low zero i e above below = absurd (omega arith)
none_found p low (suc n) i e above below =
    elim (p low) as (λ b. p low ≡ b → p i ≡ false) [
      | true ↦ λ is. absurd (let f : find p (range_with_len low (suc n)) ≡ Some low = rw is refl in cc)
      | false ↦ λ is. let f : find p (range_with_len (low + 1) n) ≡ None = ap (λ b. cond b (Some low) (find p (range_with_len (low + 1) n))) (sym is) ∙ e in elim (cases_lt low i) [
        | inl later ↦ none_found p (low + 1) n i f (omega arith) (omega arith)
        | inr here ↦ let same : i ≡ low = omega arith in rw same is
      ]
    ] refl

-- none of the indexes from begin to end
pub record IsFree {V : Type 0} (batches : List (Batch V)) (begin end : ℕ) : Type 0 where
  pub free : (index : ℕ) → begin ≤ index → index < end → is_covered batches index ≡ false

pub free_from : {V : Type 0} (batches : List (Batch V)) (begin total : ℕ) → least_covered batches begin total ≡ None → IsFree batches begin (begin + total)
free_from batches begin total e = record { free = λ index above below. none_found (is_covered batches) begin total index e above below }

or_left : (a b : Bool) → (a || b) ≡ false → a ≡ false
or_left a b h = grind arith

or_right : (a b : Bool) → (a || b) ≡ false → b ≡ false
or_right a b h = grind arith

pub free_first : {V : Type 0} (first : Batch V) (batches : List (Batch V)) (begin end index : ℕ) → IsFree (first ∷ batches) begin end → begin ≤ index → index < end → covers index first ≡ false
free_first first batches begin end index f above below = or_left _ (is_covered batches index) (f.free index above below)

pub free_rest : {V : Type 0} (first : Batch V) (batches : List (Batch V)) (begin end : ℕ) → IsFree (first ∷ batches) begin end → IsFree batches begin end
free_rest first batches begin end f = record { free = λ index above below. or_right (covers index first) _ (f.free index above below) }

-- ---- in its place
pub placed-before : {V : Type 0} (first : Batch V) (batches : List (Batch V)) (b : Batch V) → b.begin < first.begin → placed (first ∷ batches) b ≡ b ∷ first ∷ batches
placed-before first batches b h = let is : nat_lt b.begin first.begin ≡ true = grind (arith, nat_tests) in rw is refl

pub placed-after : {V : Type 0} (first : Batch V) (batches : List (Batch V)) (b : Batch V) → first.begin ≤ b.begin → placed (first ∷ batches) b ≡ first ∷ placed batches b
placed-after first batches b h = let is : nat_lt b.begin first.begin ≡ false = grind (arith, nat_tests) in rw is refl

pub not_covered : {V : Type 0} (first : Batch V) (index : ℕ) → covers index first ≡ false → first.begin ≤ index → end_of first ≤ index
not_covered first index out low = grind (arith, nat_tests)

pub apart_placed : {V : Type 0} (low : ℕ) (batches : List (Batch V)) (b : Batch V) → AreApart low batches → low ≤ b.begin → 0 < b.total → IsFree batches b.begin (end_of b) → AreApart low (placed batches b)
apart_placed low [] b a above some f = (above, some, tt)
apart_placed low (first ∷ batches) b a above some f =
    elim (cases_lt b.begin first.begin) [
      | inl before ↦
          let clear : end_of b ≤ first.begin = elim (cases_lt first.begin (end_of b)) [
            | inl within ↦ let past = not_covered first first.begin (free_first first batches b.begin (end_of b) first.begin f (omega arith) within) (omega arith) in absurd (omega (arith, past, a.1))
            | inr past ↦ past
          ] in
          rw (placed-before first batches b before) (above, some, (clear, a.1, a.2))
      | inr after ↦
          let past = not_covered first b.begin (free_first first batches b.begin (end_of b) b.begin f (omega arith) (omega arith)) after in
          rw (placed-after first batches b after) (a.0, a.1, apart_placed (end_of first) batches b a.2 past some (free_rest first batches b.begin (end_of b) f))
    ]

pub greatest_end-placed : {V : Type 0} (batches : List (Batch V)) (b : Batch V) → greatest_end (placed batches b) ≡ max (end_of b) (greatest_end batches)
greatest_end-placed [] b = refl
greatest_end-placed (first ∷ batches) b =
    elim (cases_lt b.begin first.begin) [
      | inl before ↦ ap greatest_end (placed-before first batches b before)
      | inr after ↦ ap greatest_end (placed-after first batches b after) ∙ ap (max (end_of first)) (greatest_end-placed batches b) ∙ omega arith
    ]

pub all_placed : {V : Type 0} (P : Batch V → Type 0) (batches : List (Batch V)) (b : Batch V) → All P batches → P b → All P (placed batches b)
all_placed P [] b all p = All-cons P b [] p all
all_placed P (first ∷ batches) b all p =
    elim (cases_lt b.begin first.begin) [
      | inl before ↦ subst (All P) (sym (placed-before first batches b before)) (All-cons P b (first ∷ batches) p all)
      | inr after ↦ subst (All P) (sym (placed-after first batches b after)) (All-cons P first (placed batches b) (All-head P first batches all) (all_placed P batches b (All-tail P first batches all) p))
    ]

pub store_placed : {V : Type 0} (filter : Bool) (batches : List (Batch V)) (b : Batch V) → IsStore filter batches → least_covered batches b.begin b.total ≡ None → 0 < b.total → end_of b ≤ 8388608 → IsWhole filter b → IsStore filter (placed batches b)
store_placed filter batches b s free some bounded whole = record {
  apart = apart_placed 0 batches b s.apart (omega arith) some (free_from batches b.begin b.total free);
  whole = all_placed (IsWhole filter) batches b s.whole whole;
  bounded = omega (arith, greatest_end-placed batches b, s.bounded);
}

-- Batches put in their places one after the other are the same batches, ascending by their begins.
use Rattle.std.proofs.Common.{rules, ◌≡◌, ℕ, zero, suc, ◌+◌, ◌≤◌, false, List, [], ◌∷◌, ◌++◌, fold, inl, inr, subst, arith}
use Rattle.std.specs.List.Sorted.{IsPermutation, IsSortedByKey}
use Rattle.std.specs.Ordering.{nat_cmp, is_lt}
use Rattle.std.proofs.lemmas.Bool.{cases_lt}
use Rattle.std.proofs.lemmas.List.{append-nil}
use Rattle.std.proofs.lemmas.List.Sorted.{IsPermutation-refl, IsPermutation-sym, IsPermutation-trans, IsPermutation-cons, IsPermutation-middle, IsPermutation-append_right}
use Rattle.qtc_store.specs.declared.batch.Batch.{Batch}
use Rattle.qtc_store.specs.Batches.{begin_of, placed, in_order}
use Rattle.qtc_store.specs.Laws.{InOrderAscends}
use Rattle.qtc_store.proofs.Placed.{placed-before, placed-after}

-- from `low` on no batch begins before the one in front of it
abbrev pub Ascend : {V : Type 0} → ℕ → List (Batch V) → Type 0
Ascend low [] = Unit {0}
Ascend low (b ∷ batches) = (low ≤ b.begin) × Ascend b.begin batches

ascend_lower : {V : Type 0} (low low' : ℕ) (batches : List (Batch V)) → low ≤ low' → Ascend low' batches → Ascend low batches
ascend_lower low low' [] h a = tt
ascend_lower low low' (b ∷ batches) h a = (omega (arith, a.0), a.1)

ascend_placed : {V : Type 0} (low : ℕ) (batches : List (Batch V)) (b : Batch V) → low ≤ b.begin → Ascend low batches → Ascend low (placed batches b)
ascend_placed low [] b h a = (h, tt)
ascend_placed low (first ∷ batches) b h a =
    elim (cases_lt b.begin first.begin) [
      | inl before ↦ rw (placed-before first batches b before) (h, (omega arith, a.1))
      | inr after ↦ rw (placed-after first batches b after) (a.0, ascend_placed first.begin batches b after a.1)
    ]

ascend_fold : {V : Type 0} (start batches : List (Batch V)) → Ascend 0 start → Ascend 0 (fold placed start batches)
ascend_fold start [] a = a
ascend_fold start (b ∷ batches) a = ascend_fold (placed start b) batches (ascend_placed 0 start b (omega arith) a)

not_less : (m n : ℕ) → m ≤ n → is_lt (nat_cmp n m) ≡ false
not_less m n h = search rules

sorted_from : {V : Type 0} (low : ℕ) (batches : List (Batch V)) → Ascend low batches → IsSortedByKey begin_of nat_cmp batches
sorted_from low [] a k d above below = absurd (omega arith)
sorted_from low (b ∷ []) a k d above below = absurd (omega arith)
sorted_from low (b ∷ next ∷ batches) a zero d above below = not_less b.begin next.begin a.1.0
sorted_from low (b ∷ next ∷ batches) a (suc k) d above below =
    let same : suc k + 1 ≡ suc (k + 1) = omega arith in rw same (sorted_from b.begin (next ∷ batches) a.1 k d (omega arith) (omega arith))

-- ---- the same batches
placed_moves : {V : Type 0} (batches : List (Batch V)) (b : Batch V) → IsPermutation (b ∷ batches) (placed batches b)
placed_moves [] b = IsPermutation-refl (b ∷ [])
placed_moves (first ∷ batches) b =
    elim (cases_lt b.begin first.begin) [
      | inl before ↦ rw (placed-before first batches b before) (IsPermutation-refl (b ∷ first ∷ batches))
      | inr after ↦
          rw (placed-after first batches b after) (IsPermutation-trans (b ∷ first ∷ batches) (first ∷ b ∷ batches) (first ∷ placed batches b)
          (IsPermutation-sym (first ∷ b ∷ batches) (b ∷ first ∷ batches) (IsPermutation-middle (first ∷ []) b batches))
          (IsPermutation-cons first (b ∷ batches) (placed batches b) (placed_moves batches b)))
    ]

fold_moves : {V : Type 0} (start batches : List (Batch V)) → IsPermutation (batches ++ start) (fold placed start batches)
fold_moves start [] = IsPermutation-refl start
fold_moves start (b ∷ batches) =
    IsPermutation-trans (b ∷ (batches ++ start)) (batches ++ placed start b) (fold placed (placed start b) batches)
    (IsPermutation-trans (b ∷ (batches ++ start)) (batches ++ b ∷ start) (batches ++ placed start b)
    (IsPermutation-sym (batches ++ b ∷ start) (b ∷ (batches ++ start)) (IsPermutation-middle batches b start))
    (IsPermutation-append_right batches (b ∷ start) (placed start b) (placed_moves start b)))
    (fold_moves (placed start b) batches)

pub in_order_moves : {V : Type 0} (batches : List (Batch V)) → IsPermutation batches (in_order batches)
in_order_moves batches = subst (λ xs. IsPermutation xs (in_order batches)) (append-nil batches) (fold_moves [] batches)

pub batches_in_order_ascend : (V : Type 0) → InOrderAscends V
batches_in_order_ascend V batches = (in_order_moves batches, sorted_from 0 (in_order batches) (ascend_fold [] batches tt))

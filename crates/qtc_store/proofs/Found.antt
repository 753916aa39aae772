-- Where the values of a batch are found.
use Rattle.std.proofs.Common.{◌≡◌, ℕ, zero, suc, ◌+◌, ◌<◌, ◌≤◌, false, List, [], ◌∷◌, ◌++◌, Some, length, get_or, All, inl, inr, refl, ap, sym, ◌∙◌, slice_get, arith}
use Rattle.std.specs.List.{flat_map}
use Rattle.std.specs.FinMap.{get}
use Rattle.std.specs.FinMap.Entries.{find}
use Rattle.std.specs.Ordering.{nat_cmp}
use Rattle.std.proofs.lemmas.Bool.{cases_lt}
use Rattle.std.proofs.lemmas.Grind.{flat_map-append}
use Rattle.std.proofs.lemmas.List.Elements.{All-head, All-tail}
use Rattle.qtc_store.specs.declared.batch.Batch.{Batch}
use Rattle.qtc_store.specs.Batches.{end_of, placed, values_of, IsWhole}
use Rattle.qtc_store.specs.Laws.{BatchesAreFound}
use Rattle.qtc_store.specs.Results.{cells_of, results}
use Rattle.qtc_store.specs.Stored.{Stored, IsStore, NothingRefuses}
use Rattle.qtc_store.proofs.Cells.{find-at, results_found, slice_get-append_left, slice_get-append_right}
use Rattle.qtc_store.proofs.Kept.{skip_batch}
use Rattle.qtc_store.proofs.Placed.{free_first, free_from, free_rest, placed-after, placed-before, IsFree}
use Rattle.qtc_store.proofs.Refused.{unrefused_free}

-- ---- in plain mode
read : {V : Type 0} (values : List V) (i : ℕ) (d : V) → i < length values → slice_get values i ≡ Some (get_or values i d)
read [] i d h = absurd (omega arith)
read (x ∷ xs) zero d h = refl
read (x ∷ xs) (suc i) d h = read xs i d (omega arith)

some_value : {V : Type 0} (values : List V) (i : ℕ) → i < length values → (d : V) × (slice_get values i ≡ Some d)
some_value [] i h = absurd (omega arith)
some_value (x ∷ xs) zero h = (x, refl)
some_value (x ∷ xs) (suc i) h = some_value xs i (omega arith)

found_placed : {V : Type 0} (batches : List (Batch V)) (b : Batch V) (i : ℕ) (d : V) → All (IsWhole false) batches → IsFree batches b.begin (end_of b) → i < length b.values → length b.values ≤ b.total → find nat_cmp (b.begin + i) (flat_map cells_of (placed batches b)) ≡ Some (get_or b.values i d)
found_placed [] b i d whole free within few =
    find-at (b.begin + i) b.begin b.values [] d (omega arith) (omega arith) ∙ ap (λ n. Some (get_or b.values n d)) (omega arith)
found_placed (first ∷ batches) b i d whole free within few =
    elim (cases_lt b.begin first.begin) [
      | inl before ↦
          ap (λ xs. find nat_cmp (b.begin + i) (flat_map cells_of xs)) (placed-before first batches b before)
          ∙ find-at (b.begin + i) b.begin b.values (flat_map cells_of (first ∷ batches)) d (omega arith) (omega arith)
          ∙ ap (λ n. Some (get_or b.values n d)) (omega arith)
      | inr after ↦
          ap (λ xs. find nat_cmp (b.begin + i) (flat_map cells_of xs)) (placed-after first batches b after)
          ∙ skip_batch (b.begin + i) first (flat_map cells_of (placed batches b)) (All-head (IsWhole false) first batches whole).few (free_first first batches b.begin (end_of b) (b.begin + i) free (omega arith) (omega arith))
          ∙ found_placed batches b i d (All-tail (IsWhole false) first batches whole) (free_rest first batches b.begin (end_of b) free) within few
    ]

plain_found : {V : Type 0} (store : Stored V) (b : Batch V) (i : ℕ) → IsStore false store.batches → NothingRefuses store b.begin b.total → IsWhole false b → i < length b.values → get (results (placed store.batches b)) (b.begin + i) ≡ slice_get b.values i
plain_found store b i is unrefused whole within =
    let some = some_value b.values i within in
    let free = free_from store.batches b.begin b.total (unrefused_free store.batches b.begin b.total unrefused) in
    results_found (placed store.batches b) (b.begin + i)
    ∙ found_placed store.batches b i some.0 is.whole free within whole.few
    ∙ sym (read b.values i some.0 within)

-- ---- in filter mode
visible_found : {V : Type 0} (before after : List (Batch V)) (b : Batch V) (i : ℕ) → i < length b.values → slice_get (flat_map values_of (before ++ b ∷ after)) (length (flat_map values_of before) + i) ≡ slice_get b.values i
visible_found before after b i within =
    let some = some_value b.values i within in
    let front = flat_map values_of before in
    let rest = flat_map values_of after in
    ap (λ vs. slice_get vs (length front + i)) (flat_map-append values_of before (b ∷ after))
    ∙ slice_get-append_right front (b.values ++ rest) (length front + i) (omega arith)
    ∙ ap (λ n. slice_get (b.values ++ rest) n) (omega arith)
    ∙ slice_get-append_left b.values rest i some.0 within
    ∙ sym (read b.values i some.0 within)

pub batches_are_found : (V : Type 0) → BatchesAreFound V
batches_are_found V = record {
  plain = λ store b i is unrefused whole within. plain_found store b i is unrefused whole within;
  visible = λ batches before after b i meets within.
      ap (λ bs. slice_get (flat_map values_of bs) (length (flat_map values_of before) + i)) meets
      ∙ visible_found before after b i within;
}

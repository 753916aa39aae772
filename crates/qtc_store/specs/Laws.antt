-- What the definitions of a store come to, in other words. (Own.)
use Rattle.std.specs.Prelude.{◌≡◌, ◌+◌, ◌<◌, ℕ, false, nat_lt, List, ◌∷◌, ◌++◌, filter, length, slice_get, IsTrue}
use Rattle.std.specs.List.{flat_map}
use Rattle.std.specs.FinMap.{get}
use Rattle.std.specs.List.Sorted.{IsPermutation, IsSortedByKey}
use Rattle.std.specs.Ordering.{nat_cmp}
use Rattle.qtc_store.specs.declared.batch.Batch.{Batch}
use Rattle.qtc_store.specs.Batches.{AreApart, IsWhole, begin_of, in_order, is_covered, placed, values_of}
use Rattle.qtc_store.specs.Results.{results}
use Rattle.qtc_store.specs.Stored.{IsStore, KeepsResults, NothingRefuses, Stored, with_batch}
use Rattle.qtc_store.specs.Visible.{meeting, visible}

-- what is visible is what was kept below the first index that no batch covers
abbrev pub VisibleIsBelowGap : Type 0 → Type 0
VisibleIsBelowGap V = (batches : List (Batch V)) (gap : ℕ) → AreApart 0 batches
    → ((index : ℕ) → index < gap → IsTrue (is_covered batches index)) → is_covered batches gap ≡ false
    → visible batches ≡ flat_map values_of (filter (λ batch. nat_lt batch.begin gap) batches)

-- batches in order are the same batches, each as often as before, ascending by their begins
abbrev pub InOrderAscends : Type 0 → Type 0
InOrderAscends V = (batches : List (Batch V)) → IsPermutation batches (in_order batches) × IsSortedByKey begin_of nat_cmp (in_order batches)

-- with a batch that nothing refuses a store is a store, and no result of it moves or changes
pub record BatchesKeepResults (V : Type 0) : Type 0 where
  pub store :
      (store : Stored V) (batch : Batch V) → IsStore store.filter store.batches
      → NothingRefuses store batch.begin batch.total → IsWhole store.filter batch
      → IsStore store.filter (with_batch store batch).batches
  pub kept :
      (store : Stored V) (batch : Batch V) → IsStore store.filter store.batches
      → NothingRefuses store batch.begin batch.total → IsWhole store.filter batch
      → KeepsResults store (with_batch store batch)

-- the values of a batch are found: in the map of results at its indexes, once it is in its place, and in the visible
-- list, once it is among the batches that meet from 0 on, at the positions that the values before it give
pub record BatchesAreFound (V : Type 0) : Type 0 where
  pub plain :
      (store : Stored V) (batch : Batch V) (place : ℕ) → IsStore false store.batches
      → NothingRefuses store batch.begin batch.total → IsWhole false batch → place < length batch.values
      → get (results (placed store.batches batch)) (batch.begin + place) ≡ slice_get batch.values place
  pub visible :
      (batches before after : List (Batch V)) (batch : Batch V) (place : ℕ)
      → meeting 0 batches ≡ before ++ batch ∷ after → place < length batch.values
      → slice_get (visible batches) (length (flat_map values_of before) + place) ≡ slice_get batch.values place

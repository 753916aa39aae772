-- What a store is seen as: its mode, and its accepted batches in order of their begins. What its queries answer is after Qt's ResultStoreBase; the refusals and their order are own.
use Rattle.std.specs.Prelude.{ℕ, ◌≡◌, ◌+◌, ◌<◌, ◌≤◌, ◌==◌, ◌&&◌, nat_lt, nat_le, Bool, if◌then◌else◌, Option, Some, None, IsSome, is_some, unwrap_or, List, [], ◌∷◌, length, slice_get, All}
use Rattle.std.specs.List.{list_any}
use Rattle.std.specs.FinMap.{get}
use Rattle.qtc_store.specs.declared.batch.Batch.{Batch}
use Rattle.qtc_store.specs.declared.batch.AddFault.{AddFault}
use Rattle.qtc_store.specs.declared.batch.AddFault.TheVariants.{Taken, PastEnd}
use Rattle.qtc_store.specs.Batches.{AreApart, IsWhole, placed, greatest_end, least_covered}
use Rattle.qtc_base.specs.Limits.{most_end}
use Rattle.qtc_store.specs.Results.{results, result_count, result_ranges}
use Rattle.qtc_store.specs.Visible.{visible, visible_ranges}

pub record Stored (V : Type 0) : Type 0 where
  pub filter : Bool
  pub batches : List (Batch V)

-- the result at an index, or at a position in filter mode
abbrev pub value_at : {V : Type 0} → Stored V → ℕ → Option V
value_at store index = if store.filter then slice_get (visible store.batches) index else get (results store.batches) index

abbrev pub count_of : {V : Type 0} → Stored V → ℕ
count_of store = if store.filter then length (visible store.batches) else result_count store.batches

abbrev pub ranges_of : {V : Type 0} → Stored V → List (ℕ × ℕ)
ranges_of store = if store.filter then visible_ranges store.batches else result_ranges store.batches

-- the number lies between the bounds of a range
abbrev pub in_range : ℕ → ℕ × ℕ → Bool
in_range number range = nat_le range.0 number && nat_lt number range.1

-- none of the ranges is empty, and each begins where the one before ends or later
abbrev pub AreRising : ℕ → List (ℕ × ℕ) → Type 0
AreRising low [] = Unit {0}
AreRising low (range ∷ ranges) = (low ≤ range.0) × (range.0 < range.1) × AreRising range.1 ranges

-- ranges that hold the numbers of the results and no others, each once
pub record AreRangesOf {V : Type 0} (store : Stored V) (ranges : List (ℕ × ℕ)) : Type 0 where
  pub rising : AreRising 0 ranges
  pub just : (number : ℕ) → list_any (in_range number) ranges ≡ is_some (value_at store number)

-- why a batch is refused, want of memory apart: the least index of it that is covered, or its end
abbrev pub refusal : Option ℕ → ℕ → Option AddFault
refusal (Some index) end = Some (Taken index)
refusal None end = if nat_lt most_end end then Some PastEnd else None

abbrev pub refusal_of : {V : Type 0} → List (Batch V) → (begin total : ℕ) → Option AddFault
refusal_of batches begin total = refusal (least_covered batches begin total) (begin + total)

-- the index is the least of the batch's that an accepted batch covers
abbrev pub IsTaken : {V : Type 0} → Stored V → (begin total : ℕ) → ℕ → Type 0
IsTaken store begin total index = least_covered store.batches begin total ≡ Some index

-- none of them is covered, and the batch ends past the limit
abbrev pub PassesEnd : {V : Type 0} → Stored V → (begin total : ℕ) → Type 0
PassesEnd store begin total = (least_covered store.batches begin total ≡ None) × (most_end < begin + total)

-- nothing refuses the batch
abbrev pub NothingRefuses : {V : Type 0} → Stored V → (begin total : ℕ) → Type 0
NothingRefuses store begin total = refusal_of store.batches begin total ≡ None

-- there is a result at each number below this one, and none at it
pub record IsFirstGap {V : Type 0} (store : Stored V) (number : ℕ) : Type 0 where
  pub below : (index : ℕ) → index < number → IsSome (value_at store index)
  pub gap : value_at store number ≡ None

-- no result that was there moves or changes
abbrev pub KeepsResults : {V : Type 0} → Stored V → Stored V → Type 0
KeepsResults {V} old new = (index : ℕ) (value : V) → value_at old index ≡ Some value → value_at new index ≡ Some value

-- the values of the results below the count, in order
pub record IsFirstResults {V : Type 0} (store : Stored V) (values : List V) : Type 0 where
  pub all : length values ≡ count_of store
  pub each : (index : ℕ) → index < length values → slice_get values index ≡ value_at store index

-- where a result goes that is added by itself: at its index, or where the last batch ends
abbrev pub goes_at : {V : Type 0} → Stored V → Option ℕ → ℕ
goes_at store index = unwrap_or index (greatest_end store.batches)

abbrev pub batch_with : {V : Type 0} → ℕ → List V → ℕ → Batch V
batch_with begin values total = record { begin = begin; values = values; total = total }

-- with a batch that is accepted; one that covers nothing adds nothing
abbrev pub with_batch : {V : Type 0} → Stored V → Batch V → Stored V
with_batch store batch = if batch.total == 0 then store else record store { batches = placed store.batches batch }

-- what is true of the batches of every store
pub record IsStore {V : Type 0} (filter : Bool) (batches : List (Batch V)) : Type 0 where
  pub apart : AreApart 0 batches
  pub whole : All (IsWhole filter) batches
  pub bounded : greatest_end batches ≤ most_end

-- Additions that are offered one after the other, of which some are refused. (Own.)
use Rattle.std.specs.Prelude.{ℕ, ◌≡◌, ◌≤◌, Bool, true, false, ◌&&◌, nat_lt, if◌then◌else◌, is_none, unwrap_or, IsSome, List, [], ◌∷◌, ◌++◌, length, fold, slice_get, All, Contains}
use Rattle.std.specs.List.{flat_map}
use Rattle.std.specs.FinMap.{get}
use Rattle.qtc_store.specs.declared.batch.Batch.{Batch}
use Rattle.qtc_store.specs.declared.batch.Addition.{Addition}
use Rattle.qtc_store.specs.Batches.{end_of, values_of, greatest_end, in_order}
use Rattle.qtc_store.specs.Results.{results}
use Rattle.qtc_store.specs.Stored.{Stored, refusal_of, value_at, with_batch}

-- the batch that an addition is where these were accepted before; without a begin it goes at the greatest end
abbrev pub batch_of : {V : Type 0} → List (Batch V) → Addition V → Batch V
batch_of accepted addition = record {
  begin = unwrap_or addition.begin (greatest_end accepted);
  values = addition.values;
  total = addition.total;
}

-- none of its indexes is covered, it does not end too far, and it covers something
abbrev pub is_accepted : {V : Type 0} → List (Batch V) → Batch V → Bool
is_accepted accepted batch = is_none (refusal_of accepted batch.begin batch.total) && nat_lt 0 batch.total

abbrev pub accepted_with : {V : Type 0} → List (Batch V) → Addition V → List (Batch V)
accepted_with accepted addition = if is_accepted accepted (batch_of accepted addition) then accepted ++ batch_of accepted addition ∷ [] else accepted

-- the accepted batches in order of arrival
abbrev pub accepted_of : {V : Type 0} → List (Addition V) → List (Batch V)
accepted_of additions = fold accepted_with [] additions

-- the store of accepted batches
abbrev pub store_of : {V : Type 0} → Bool → List (Batch V) → Stored V
store_of filter accepted = record { filter = filter; batches = in_order accepted }

-- in plain mode the results are those of the batches in the order in which they came
abbrev pub HasResultsOf : {V : Type 0} → Stored V → List (Batch V) → Type 0
HasResultsOf store accepted = (index : ℕ) → value_at store index ≡ get (results accepted) index

-- from a place on these are taken: one that begins there, then one that begins at its end, and so on while there is one
abbrev pub AreTaken : {V : Type 0} → (accepted : List (Batch V)) → ℕ → List (Batch V) → Type 0
AreTaken accepted place [] = All (λ batch. ¬ (batch.begin ≡ place)) accepted
AreTaken accepted place (batch ∷ batches) = Contains accepted batch × (batch.begin ≡ place) × AreTaken accepted (end_of batch) batches

-- in filter mode the results are the values of those that are taken from 0 on, whatever the order in which they came
pub record ShowsTaken {V : Type 0} (store : Stored V) (accepted : List (Batch V)) : Type 0 where
  pub shown : List (Batch V)
  pub taken : AreTaken accepted 0 shown
  pub values : (position : ℕ) → value_at store position ≡ slice_get (flat_map values_of shown) position

-- the store after one addition, refused or not
abbrev pub offered : {V : Type 0} → Stored V → Addition V → Stored V
offered store addition = let batch = batch_of store.batches addition in
    if is_none (refusal_of store.batches batch.begin batch.total) then with_batch store batch else store

-- an addition may be offered in a mode
pub record Fits {V : Type 0} (filter : Bool) (addition : Addition V) : Type 0 where
  pub few : length addition.values ≤ addition.total
  pub whole : filter ≡ false → length addition.values ≡ addition.total
  pub given : filter ≡ true → IsSome addition.begin

-- How a store lies in memory. (Own.)
use Rattle.std.specs.Prelude.{ℕ, ◌≡◌, ◌+◌, ◌≤◌, nat_le, nat_lt, Bool, List, [], ◌∷◌, ◌++◌, length, map, filter, All}
use Rattle.std.specs.List.{flat_map}
use Rattle.std.specs.Vec.{vec_len, vec_capacity}
use Rattle.qtc_base.specs.declared.ranges.Range.{Range}
use Rattle.qtc_store.specs.declared.batch.Batch.{Batch}
use Rattle.qtc_store.specs.declared.front.Front.{Front}
use Rattle.qtc_store.specs.declared.front.Met.{Met}
use Rattle.qtc_store.specs.declared.pending.Pending.{Pending}
use Rattle.qtc_store.specs.Batches.{end_of, values_of, greatest_end}
use Rattle.qtc_base.specs.Limits.{most_end}
use Rattle.qtc_store.specs.Visible.{meeting, meeting_end}
use Rattle.qtc_store.specs.Stored.{IsStore}
use Rattle.qtc_base.specs.Ranges.{bounds_of}

abbrev pub batches_of : {V : Type 0} → List (Met V) → List (Batch V)
batches_of met = map (λ m. m.batch) met

-- the batches that meet from 0 on
abbrev pub met_in : {V : Type 0} → Front V → List (Batch V)
met_in front = batches_of front.met.items

-- those behind a gap
abbrev pub waiting_in : {V : Type 0} → Pending V → List (Batch V)
waiting_in pending = map (λ e. e.1) pending.batches.entries

-- the ranges are those that there were, and these
abbrev pub Appends : (old new : List Range) → List (ℕ × ℕ) → Type 0
Appends old new ranges = map bounds_of new ≡ map bounds_of old ++ ranges

-- those that begin at the index or below it, and those that begin after it
abbrev pub up_to : {V : Type 0} → ℕ → List (Batch V) → List (Batch V)
up_to index batches = filter (λ batch. nat_le batch.begin index) batches

abbrev pub after : {V : Type 0} → ℕ → List (Batch V) → List (Batch V)
after index batches = filter (λ batch. nat_lt index batch.begin) batches

-- each batch begins where the one before ends, the first at the place
abbrev pub AreMet : {V : Type 0} → ℕ → List (Batch V) → Type 0
AreMet place [] = Unit {0}
AreMet place (batch ∷ batches) = (batch.begin ≡ place) × AreMet (end_of batch) batches

-- each batch has the number of values before it
abbrev pub AreFirsts : {V : Type 0} → ℕ → List (Met V) → Type 0
AreFirsts position [] = Unit {0}
AreFirsts position (met ∷ rest) = (met.first ≡ position) × AreFirsts (position + length met.batch.values) rest

pub record IsFront {V : Type 0} (front : Front V) : Type 0 where
  pub met : AreMet 0 (met_in front)
  pub firsts : AreFirsts 0 front.met.items
  pub place : front.place ≡ meeting_end 0 (met_in front)
  pub count : front.count ≡ length (flat_map values_of (met_in front))
  pub few : front.count ≤ front.place
  pub bounded : front.place ≤ most_end

-- so many more batches fit without memory
abbrev pub HasRoom : {V : Type 0} → Front V → ℕ → Type 0
HasRoom front more = vec_len front.met + more ≤ vec_capacity front.met

-- each batch stands at its begin
pub record IsKeyed {V : Type 0} (pending : Pending V) : Type 0 where
  pub keys : All (λ e. e.0 ≡ e.1.begin) pending.batches.entries

abbrev pub batches_in : {V : Type 0} → Front V → Pending V → List (Batch V)
batches_in front pending = met_in front ++ waiting_in pending

-- what holds of a store's parts: nothing that waits meets the front, and `end` is where the last batch ends
pub record IsLaid {V : Type 0} (by_filter : Bool) (front : Front V) (pending : Pending V) (end : ℕ) : Type 0 where
  pub met : IsFront front
  pub keyed : IsKeyed pending
  pub store : IsStore by_filter (batches_in front pending)
  pub gap : meeting front.place (waiting_in pending) ≡ []
  pub last : end ≡ greatest_end (batches_in front pending)

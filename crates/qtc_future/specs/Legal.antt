-- Lists of calls that each had an effect where they stand. (Own.)
use Rattle.std.specs.Prelude.{ℕ, ◌≡◌, List, [], ◌∷◌, All, IsTrue, length}
use Rattle.qtc_events.specs.Calls.{has_effect}
use Rattle.qtc_events.specs.declared.calls.Call.{Call}
use Rattle.qtc_events.specs.declared.calls.Call.TheVariants.{Report, Fail}
use Rattle.qtc_store.specs.Batches.{IsWhole}
use Rattle.qtc_store.specs.Stored.{Stored, NothingRefuses}
use Rattle.qtc_store.specs.declared.batch.Batch.{Batch}
use Rattle.qtc_future.specs.Future.{Future, Logged, batches_in, flags_of, results_of}
use Rattle.qtc_future.specs.Steps.{reached_by, with_call}

-- a batch that the store takes
pub record IsAcceptable {V : Type 0} (store : Stored V) (batch : Batch V) : Type 0 where
  pub unrefused : NothingRefuses store batch.begin batch.total
  pub whole : IsWhole store.filter batch

-- what a call carries: a report the values that it keeps, a fail an item, and no other anything
abbrev pub Carries : {V : Type 0} → Call → List V → List ℕ → Type 0
Carries (Report begin kept total) values item = (kept ≡ length values) × (item ≡ [])
Carries (Fail index) values item = values ≡ []
Carries _ values item = (values ≡ []) × (item ≡ [])

-- the call has an effect on this future, and is logged with what it reaches and carries
pub record IsEffective {V : Type 0} (future : Future V) (logged : Logged V) : Type 0 where
  pub effect : IsTrue (has_effect (flags_of future) logged.entry.call)
  pub reached : logged.entry.reached ≡ reached_by future logged.entry.call
  pub batch : All (IsAcceptable (results_of future)) (batches_in logged)
  pub carries : Carries logged.entry.call logged.values logged.item

-- each of the calls has an effect after those before it
abbrev pub AreEffective : {V : Type 0} → Future V → List (Logged V) → Type 0
AreEffective future [] = Unit {0}
AreEffective future (logged ∷ calls) = IsEffective future logged × AreEffective (with_call future logged) calls

abbrev pub IsLegal : {V : Type 0} → Future V → Type 0
IsLegal future = AreEffective (record future { calls = [] }) future.calls

-- What the table of a future comes to, in the words of whoever shares one. (Own.)
use Rattle.std.specs.Prelude.{◌≡◌, ◌<◌, ◌+◌, ◌↔◌, ◌⊎◌, ℕ, true, false, min, List, [], ◌∷◌, ◌++◌, length, sum_by, slice_get, All, IsTrue}
use Rattle.std.specs.List.{flat_map}
use Rattle.qtc_events.specs.Flags.{Standing, new_flags}
use Rattle.qtc_events.specs.Calls.{has_effect, most_accounted}
use Rattle.qtc_events.specs.Journal.{HaveEffect}
use Rattle.qtc_events.specs.declared.calls.Call.{Call}
use Rattle.qtc_events.specs.declared.calls.Call.TheVariants.{Account, Finish}
use Rattle.qtc_store.specs.Batches.{values_of}
use Rattle.qtc_store.specs.Stored.{value_at, IsTaken, KeepsResults, PassesEnd}
use Rattle.qtc_store.specs.Visible.{meeting}
use Rattle.qtc_store.specs.declared.batch.Batch.{Batch}
use Rattle.qtc_future.specs.Future.{Future, Logged, accounted_of, batches_in, events_of, flags_of, journal_of, posted, reports_of, results_of}
use Rattle.qtc_future.specs.Steps.{Dropped, Effect, PastEnd, Taken, by_row, dropped, has_ended, offered, step, with_call}
use Rattle.qtc_future.specs.Legal.{IsEffective, IsLegal}
use Rattle.qtc_future.specs.Runs.{CanAsk}
use Rattle.qtc_future.specs.declared.requests.Request.{Request}
use Rattle.qtc_future.specs.declared.requests.Request.TheVariants.{ReportBatch, Account as AskAccount}

abbrev pub with_calls : {V : Type 0} → Future V → List (Logged V) → Future V
with_calls future later = record future { calls = future.calls ++ later }

-- when each answer comes; what a batch is told is judged by its offer, and a call of a row by that
pub record AnswersHaveCauses (V : Type 0) : Type 0 where
  pub dropped :
      (future : Future V) (caller : ℕ) (batch : Batch V) (flags : Standing)
      → ((offered future caller batch).told ≡ Dropped flags)
      ↔ (IsTrue (has_ended future) × (flags ≡ flags_of future))
  pub taken :
      (future : Future V) (caller : ℕ) (batch : Batch V) (index : ℕ)
      → ((offered future caller batch).told ≡ Taken index)
      ↔ ((has_ended future ≡ false) × IsTaken (results_of future) batch.begin batch.total index)
  pub past_end :
      (future : Future V) (caller : ℕ) (batch : Batch V)
      → ((offered future caller batch).told ≡ PastEnd)
      ↔ ((has_ended future ≡ false) × PassesEnd (results_of future) batch.begin batch.total)
  pub effect :
      (future : Future V) (caller : ℕ) (call : Call) (item : List ℕ)
      → ((by_row future caller call item).told ≡ Effect true) ↔ IsTrue (has_effect (flags_of future) call)

-- where Canceled or Finished stands nothing is reported, added or accounted for any more
pub record EndsDropAll (V : Type 0) : Type 0 where
  pub report :
      (future : Future V) (caller begin total : ℕ) (values : List V) → IsTrue (has_ended future)
      → step future caller (ReportBatch begin values total) ≡ dropped future
  pub account :
      (future : Future V) (caller total : ℕ) → IsTrue (has_ended future)
      → step future caller (AskAccount total) ≡ dropped future

-- the call of this caller is logged last, and had an effect
pub record IsLast {V : Type 0} (old : Future V) (caller : ℕ) (logged : Logged V) (new : Future V) : Type 0 where
  pub made : logged.entry.caller ≡ caller
  pub effective : IsEffective old logged
  pub after : new ≡ with_call old logged

-- a call is logged last, or leaves the future as it was
abbrev pub JournalsGrowByOne : Type 0 → Type 0
JournalsGrowByOne V =
    (future : Future V) (caller : ℕ) (request : Request V) → CanAsk future.filter request
    → ((step future caller request).future ≡ future)
    ⊎ ((logged : Logged V) × IsLast future caller logged (step future caller request).future)

-- each call of a legal list has an effect in the table of calls too, and a step from one gives one
pub record JournalsAreLegal (V : Type 0) : Type 0 where
  pub journal : (future : Future V) → IsLegal future → HaveEffect new_flags (journal_of future)
  pub step :
      (future : Future V) (caller : ℕ) (request : Request V) → CanAsk future.filter request → IsLegal future
      → IsLegal (step future caller request).future

-- after Canceled nothing but Finish has an effect, so no report, and after Finish nothing
pub record EndsAreLast (V : Type 0) : Type 0 where
  pub canceled :
      (future : Future V) (later : List (Logged V)) → IsLegal (with_calls future later)
      → IsTrue (flags_of future).canceled → All (λ logged. logged.entry.call ≡ Finish) later
  pub finished :
      (future : Future V) (later : List (Logged V)) → IsLegal (with_calls future later)
      → IsTrue (flags_of future).finished → later ≡ []

-- no accepted result moves or changes
abbrev pub ResultsStay : Type 0 → Type 0
ResultsStay V =
    (future : Future V) (later : List (Logged V)) → IsLegal (with_calls future later)
    → KeepsResults (results_of future) (results_of (with_calls future later))

-- a report's values are found: in plain mode at its indexes, and in filter mode, once its batch is among those that
-- meet from 0 on, at the positions that the values before it give
pub record ReportsAreFound (V : Type 0) : Type 0 where
  pub plain :
      (future : Future V) (logged : Logged V) (later : List (Logged V)) (batch : Batch V) (place : ℕ)
      → IsLegal (with_calls future (logged ∷ later)) → future.filter ≡ false
      → batches_in logged ≡ batch ∷ [] → place < length batch.values
      → value_at (results_of (with_calls future (logged ∷ later))) (batch.begin + place) ≡ slice_get batch.values place
  pub visible :
      (future : Future V) (before after : List (Batch V)) (batch : Batch V) (place : ℕ)
      → future.filter ≡ true → meeting 0 (results_of future).batches ≡ before ++ batch ∷ after
      → place < length batch.values
      → value_at (results_of future) (length (flat_map values_of before) + place) ≡ slice_get batch.values place

-- the events of the calls that came later stand behind the others
abbrev pub EventsGrow : Type 0 → Type 0
EventsGrow V =
    (future : Future V) (later : List (Logged V))
    → events_of (with_calls future later) ≡ events_of future ++ posted future.filter (reports_of future.calls) later

abbrev pub account_of : Call → ℕ
account_of (Account total) = total
account_of _ = 0

-- what is accounted for is what the accepted batches cover, and what was accounted for without a result
abbrev pub AccountedIsSum : Type 0 → Type 0
AccountedIsSum V =
    (future : Future V)
    → accounted_of future ≡ min
    (sum_by (λ batch. batch.total) (reports_of future.calls)
    + sum_by (λ logged. account_of logged.entry.call) future.calls)
    most_accounted

-- A future as its callers see it: the calls that had an effect, one after the other. Its flags, its results, its events
-- and all else that it tells are functions of these. (After QFutureInterface and QPromise; own.)
use Rattle.std.specs.Prelude.{ℕ, Bool, List, [], ◌∷◌, ◌++◌, Option, None, Some, map}
use Rattle.std.specs.Option.{option_or}
use Rattle.std.specs.List.{flat_map}
use Rattle.qtc_events.specs.Flags.{Standing}
use Rattle.qtc_events.specs.Journal.{flags_after_all, accounted, posts_of_entry}
use Rattle.qtc_events.specs.declared.calls.Call.{Call}
use Rattle.qtc_events.specs.declared.calls.Call.TheVariants.{Report, Fail}
use Rattle.qtc_events.specs.declared.entries.Entry.{Entry}
use Rattle.qtc_events.specs.declared.events.Event.{Event}
use Rattle.qtc_events.specs.declared.thresholds.Thresholds.{Thresholds}
use Rattle.qtc_store.specs.Stored.{Stored, count_of}
use Rattle.qtc_store.specs.Adds.{store_of}
use Rattle.qtc_store.specs.declared.batch.Batch.{Batch}
use Rattle.qtc_future.specs.declared.replies.Failure.{Failure}

-- a call that had an effect, with the values of a report's batch, or the item of a fail
pub record Logged (V : Type 0) : Type 0 where
  pub entry : Entry
  pub values : List V
  pub item : List ℕ

pub record Future (V : Type 0) : Type 0 where
  pub filter : Bool
  pub thresholds : Thresholds
  pub calls : List (Logged V)

abbrev pub new_future : {V : Type 0} → Bool → (cancel_after suspend_after : ℕ) → Future V
new_future filter cancel_after suspend_after = record {
  filter = filter;
  thresholds = record { cancel_after = cancel_after; suspend_after = suspend_after };
  calls = [];
}

abbrev pub entries_of : {V : Type 0} → List (Logged V) → List Entry
entries_of calls = map (λ logged. logged.entry) calls

abbrev pub journal_of : {V : Type 0} → Future V → List Entry
journal_of future = entries_of future.calls

abbrev pub flags_of : {V : Type 0} → Future V → Standing
flags_of future = flags_after_all (journal_of future)

abbrev pub accounted_of : {V : Type 0} → Future V → ℕ
accounted_of future = accounted (journal_of future)

-- the batch of a report; no other call has one
abbrev pub batch_of : {V : Type 0} → Call → List V → List (Batch V)
batch_of (Report begin kept total) values = record { begin = begin; values = values; total = total } ∷ []
batch_of _ values = []

abbrev pub batches_in : {V : Type 0} → Logged V → List (Batch V)
batches_in logged = batch_of logged.entry.call logged.values

-- the accepted batches, in the order in which they came
abbrev pub reports_of : {V : Type 0} → List (Logged V) → List (Batch V)
reports_of calls = flat_map batches_in calls

-- the results are the store of the accepted batches
abbrev pub results_of : {V : Type 0} → Future V → Stored V
results_of future = store_of future.filter (reports_of future.calls)

-- the failure of a fail; no other call has one
abbrev pub failure_of_call : Call → List ℕ → Option Failure
failure_of_call (Fail index) item = Some (record { index = index; item = item })
failure_of_call _ item = None

abbrev pub failure_in : {V : Type 0} → List (Logged V) → Option Failure
failure_in [] = None
failure_in (logged ∷ calls) = option_or (failure_of_call logged.entry.call logged.item) (failure_in calls)

abbrev pub failure_of : {V : Type 0} → Future V → Option Failure
failure_of future = failure_in future.calls

-- what a call posts where these batches were accepted before
abbrev pub posted_by : {V : Type 0} → Bool → List (Batch V) → Logged V → List Event
posted_by filter accepted logged =
    posts_of_entry filter logged.entry
    (count_of (store_of filter accepted)) (count_of (store_of filter (accepted ++ batches_in logged)))

abbrev pub posted : {V : Type 0} → Bool → List (Batch V) → List (Logged V) → List Event
posted filter accepted [] = []
posted filter accepted (logged ∷ calls) =
    posted_by filter accepted logged ++ posted filter (accepted ++ batches_in logged) calls

-- the events, one call's after the other's
abbrev pub events_of : {V : Type 0} → Future V → List Event
events_of future = posted future.filter [] future.calls

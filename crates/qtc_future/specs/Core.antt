-- What the future of one thread keeps, and the calls that this stands for. (Own.)
use Rattle.std.specs.Prelude.{ℕ, ◌≡◌, ◌==◌, List, [], Option, None, Some, map}
use Rattle.std.specs.List.{find}
use Rattle.qtc_events.specs.declared.calls.Call.{Call}
use Rattle.qtc_events.specs.declared.calls.Call.TheVariants.{Report, Fail}
use Rattle.qtc_events.specs.declared.entries.Entry.{Entry}
use Rattle.qtc_events.specs.declared.thresholds.Thresholds.{Thresholds}
use Rattle.qtc_store.specs.Stored.{Stored}
use Rattle.qtc_store.specs.declared.batch.Batch.{Batch}
use Rattle.qtc_future.specs.Booked.{Booked, HasRoom}
use Rattle.qtc_future.specs.Future.{Future, Logged, events_of, failure_of, results_of}
use Rattle.qtc_future.specs.Legal.{IsLegal}
use Rattle.qtc_future.specs.declared.replies.Failure.{Failure}

abbrev pub values_in : {V : Type 0} → Option (Batch V) → List V
values_in None = []
values_in (Some batch) = batch.values

-- the values of a report stand in the store alone, in the batch that begins where the report does
abbrev pub values_read : {V : Type 0} → List (Batch V) → Call → List V
values_read batches (Report begin kept total) = values_in (find (λ batch. batch.begin == begin) batches)
values_read batches _ = []

abbrev pub item_in : Option Failure → List ℕ
item_in None = []
item_in (Some failure) = failure.item

-- the item of a fail stands beside the journal
abbrev pub item_read : Option Failure → Call → List ℕ
item_read failure (Fail index) = item_in failure
item_read failure _ = []

abbrev pub call_read : {V : Type 0} → List (Batch V) → Option Failure → Entry → Logged V
call_read batches failure entry = record {
  entry = entry;
  values = values_read batches entry.call;
  item = item_read failure entry.call;
}

abbrev pub calls_read : {V : Type 0} → List (Batch V) → Option Failure → List Entry → List (Logged V)
calls_read batches failure journal = map (call_read batches failure) journal

-- the future that this stands for
abbrev pub seen : {V : Type 0} → Thresholds → Booked → Stored V → Option Failure → Future V
seen thresholds booked store failure = record {
  filter = store.filter;
  thresholds = thresholds;
  calls = calls_read store.batches failure booked.journal;
}

-- what is kept is that of the future
pub record IsKept {V : Type 0} (future : Future V) (booked : Booked) (store : Stored V) (failure : Option Failure)
    : Type 0 where
  pub legal : IsLegal future
  pub results : store ≡ results_of future
  pub events : booked.events ≡ events_of future
  pub failure_kept : failure ≡ failure_of future
  pub room : HasRoom booked

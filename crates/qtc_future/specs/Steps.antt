-- What one call on a future answers, and the future after it. (After QFutureInterface and QPromise; the table is own.)
use Rattle.std.specs.Prelude.{ℕ, ◌==◌, ◌||◌, nat_lt, Bool, if◌then◌else◌, List, [], ◌∷◌, ◌++◌, Option, None, Some, length}
use Rattle.qtc_events.specs.Flags.{Standing, flags_in}
use Rattle.qtc_events.specs.Calls.{has_effect, add_accounted, reached_of}
use Rattle.qtc_events.specs.declared.calls.Call.{Call}
use Rattle.qtc_events.specs.declared.calls.Call.TheVariants.{Start, Report, Account, Suspend, Resume, ReportSuspended, Cancel, Fail, Finish}
use Rattle.qtc_events.specs.declared.entries.Reached.{Reached}
use Rattle.qtc_store.specs.Batches.{end_of, least_covered}
use Rattle.qtc_base.specs.Limits.{most_end}
use Rattle.qtc_store.specs.Stored.{batch_with, count_of, goes_at}
use Rattle.qtc_store.specs.declared.batch.Added.{Added}
use Rattle.qtc_store.specs.declared.batch.Batch.{Batch}
use Rattle.qtc_future.specs.Future.{Future, Logged, flags_of, accounted_of, results_of}
use Rattle.qtc_future.specs.declared.replies.Reply.{Reply}
use Rattle.qtc_future.specs.declared.replies.Reply.TheVariants.{Accepted as ReplyAccepted, Counted as ReplyCounted, Dropped as ReplyDropped, Taken as ReplyTaken, PastEnd as ReplyPastEnd}
use Rattle.qtc_future.specs.declared.requests.Request.{Request}
use Rattle.qtc_future.specs.declared.requests.Request.TheVariants.{Start as AskStart, ReportBatch, AddResult, Account as AskAccount, SetSuspended, ReportSuspended as AskReportSuspended, Cancel as AskCancel, Fail as AskFail, Finish as AskFinish}

-- what a caller is told
pub data Told : Type 0 where
  -- whether the call had an effect
  Effect : Bool → Told
  Accepted : Added → Reached → Told
  Counted : Reached → Told
  -- the flags that stood
  Dropped : Standing → Told
  -- the least index that was covered
  Taken : ℕ → Told
  PastEnd : Told

-- the future after a call, and what its caller is told
pub record Stepped (V : Type 0) : Type 0 where
  pub future : Future V
  pub told : Told

abbrev pub stays : {V : Type 0} → Future V → Told → Stepped V
stays future told = record { future = future; told = told }

abbrev pub reached_by : {V : Type 0} → Future V → Call → Reached
reached_by future call =
    reached_of future.thresholds.cancel_after future.thresholds.suspend_after (flags_of future)
    (accounted_of future) (add_accounted (accounted_of future) call)

-- the call with what it reaches and what it carries
abbrev pub logged_by : {V : Type 0} → Future V → ℕ → Call → List V → List ℕ → Logged V
logged_by future caller call values item = record {
  entry = record { caller = caller; call = call; reached = reached_by future call };
  values = values;
  item = item;
}

abbrev pub with_call : {V : Type 0} → Future V → Logged V → Future V
with_call future logged = record future { calls = future.calls ++ logged ∷ [] }

-- a call that is logged where its row gives it an effect
abbrev pub by_row : {V : Type 0} → Future V → ℕ → Call → List ℕ → Stepped V
by_row future caller call item =
    let effect = has_effect (flags_of future) call in
    if effect
    then record { future = with_call future (logged_by future caller call [] item); told = Effect effect }
    else stays future (Effect effect)

-- Canceled or Finished stands
abbrev pub has_ended : {V : Type 0} → Future V → Bool
has_ended future = (flags_of future).canceled || (flags_of future).finished

abbrev pub dropped : {V : Type 0} → Future V → Stepped V
dropped future = stays future (Dropped (flags_of future))

abbrev pub report_of : {V : Type 0} → Batch V → Call
report_of batch = Report batch.begin (length batch.values) batch.total

-- with an accepted batch; one that covers nothing is not logged
abbrev pub with_report : {V : Type 0} → Future V → ℕ → Batch V → Future V
with_report future caller batch =
    if batch.total == 0 then future
    else with_call future (logged_by future caller (report_of batch) batch.values [])

abbrev pub accepted : {V : Type 0} → Future V → ℕ → Batch V → Stepped V
accepted future caller batch = let after = with_report future caller batch in record {
  future = after;
  told =
      Accepted
      (record {
        begin = batch.begin;
        old_count = count_of (results_of future);
        new_count = count_of (results_of after);
      })
      (reached_by future (report_of batch));
}

-- an offered batch, by the least index of it that is covered: that, then its end, refuses it
abbrev pub judged : {V : Type 0} → Future V → ℕ → Batch V → Option ℕ → Stepped V
judged future caller batch (Some index) = stays future (Taken index)
judged future caller batch None =
    if nat_lt most_end (end_of batch) then stays future PastEnd else accepted future caller batch

abbrev pub offered : {V : Type 0} → Future V → ℕ → Batch V → Stepped V
offered future caller batch =
    if has_ended future then dropped future
    else judged future caller batch (least_covered (results_of future).batches batch.begin batch.total)

abbrev pub counted : {V : Type 0} → Future V → ℕ → ℕ → Stepped V
counted future caller total =
    if has_ended future then dropped future
    else record {
      future = with_call future (logged_by future caller (Account total) [] []);
      told = Counted (reached_by future (Account total));
    }

-- the table of what can be asked of a future
abbrev pub step : {V : Type 0} → Future V → (caller : ℕ) → Request V → Stepped V
step future caller AskStart = by_row future caller Start []
step future caller (ReportBatch begin values total) = offered future caller (batch_with begin values total)
step future caller (AddResult index value) =
    offered future caller (batch_with (goes_at (results_of future) index) (value ∷ []) 1)
step future caller (AskAccount total) = counted future caller total
step future caller (SetSuspended on) = by_row future caller (if on then Suspend else Resume) []
step future caller AskReportSuspended = by_row future caller ReportSuspended []
step future caller AskCancel = by_row future caller Cancel []
step future caller (AskFail index item) = by_row future caller (Fail index) item
step future caller AskFinish = by_row future caller Finish []

abbrev pub told_by : Reply → Told
told_by (ReplyAccepted added reached) = Accepted added reached
told_by (ReplyCounted reached) = Counted reached
told_by (ReplyDropped flags) = Dropped (flags_in flags.bits)
told_by (ReplyTaken index) = Taken index
told_by ReplyPastEnd = PastEnd

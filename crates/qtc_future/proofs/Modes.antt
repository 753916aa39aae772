-- No call changes the mode or the thresholds.
use Rattle.std.proofs.Common.{◌≡◌, ℕ, Bool, true, false, nat_lt, nat_eq, List, [], ◌∷◌, Option, None, Some, if◌then◌else◌, refl}
use Rattle.qtc_events.specs.Calls.{has_effect}
use Rattle.qtc_events.specs.declared.calls.Call.{Call}
use Rattle.qtc_events.specs.declared.calls.Call.TheVariants.{Start as CallStart, Account as CallAccount, Suspend, Resume, ReportSuspended as CallReportSuspended, Cancel as CallCancel, Fail as CallFail, Finish as CallFinish}
use Rattle.qtc_store.specs.Batches.{end_of, least_covered}
use Rattle.qtc_base.specs.Limits.{most_end}
use Rattle.qtc_store.specs.Stored.{batch_with, goes_at}
use Rattle.qtc_store.specs.declared.batch.Batch.{Batch}
use Rattle.qtc_future.specs.Future.{Future, results_of, flags_of}
use Rattle.qtc_future.specs.Steps.{Stepped, Effect, PastEnd, Counted, accepted, by_row, dropped, has_ended, judged, logged_by, offered, stays, step, with_call, reached_by, report_of}
use Rattle.qtc_future.specs.declared.requests.Request.{Request}
use Rattle.qtc_future.specs.declared.requests.Request.TheVariants.{Start, ReportBatch, AddResult, Account, SetSuspended, ReportSuspended, Cancel, Fail, Finish}

-- one of two futures
chosen : {V : Type 0} (old : Future V) (b : Bool) (x y : Stepped V) → x.future.filter ≡ old.filter → y.future.filter ≡ old.filter → (if b then x else y).future.filter ≡ old.filter
chosen old true x y h k = h
chosen old false x y h k = k

chosen_future : {V : Type 0} (old : Future V) (b : Bool) (x y : Future V) → x.filter ≡ old.filter → y.filter ≡ old.filter → (if b then x else y).filter ≡ old.filter
chosen_future old true x y h k = h
chosen_future old false x y h k = k

row-filter : {V : Type 0} (future : Future V) (caller : ℕ) (call : Call) (item : List ℕ) → (by_row future caller call item).future.filter ≡ future.filter
row-filter future caller call item =
    let effect = has_effect (flags_of future) call in
    chosen future effect (record { future = with_call future (logged_by future caller call [] item); told = Effect effect }) (stays future (Effect effect)) refl refl

judged-filter : {V : Type 0} (future : Future V) (caller : ℕ) (b : Batch V) (least : Option ℕ) → (judged future caller b least).future.filter ≡ future.filter
judged-filter future caller b (Some index) = refl
judged-filter future caller b None =
    chosen future (nat_lt most_end (end_of b)) (stays future PastEnd) (accepted future caller b) refl (chosen_future future (nat_eq b.total 0) future (with_call future (logged_by future caller (report_of b) b.values [])) refl refl)

offered-filter : {V : Type 0} (future : Future V) (caller : ℕ) (b : Batch V) → (offered future caller b).future.filter ≡ future.filter
offered-filter future caller b =
    chosen future (has_ended future) (dropped future) (judged future caller b (least_covered (results_of future).batches b.begin b.total)) refl (judged-filter future caller b (least_covered (results_of future).batches b.begin b.total))

pub step-filter : {V : Type 0} (future : Future V) (caller : ℕ) (request : Request V) → (step future caller request).future.filter ≡ future.filter
step-filter future caller Start = row-filter future caller CallStart []
step-filter future caller (ReportBatch begin values total) = offered-filter future caller (batch_with begin values total)
step-filter future caller (AddResult index value) =
    offered-filter future caller (batch_with (goes_at (results_of future) index) (value ∷ []) 1)
step-filter future caller (Account total) =
    chosen future (has_ended future) (dropped future) (record { future = with_call future (logged_by future caller (CallAccount total) [] []); told = Counted (reached_by future (CallAccount total)) }) refl refl
step-filter future caller (SetSuspended on) = row-filter future caller (if on then Suspend else Resume) []
step-filter future caller ReportSuspended = row-filter future caller CallReportSuspended []
step-filter future caller Cancel = row-filter future caller CallCancel []
step-filter future caller (Fail index item) = row-filter future caller (CallFail index) item
step-filter future caller Finish = row-filter future caller CallFinish []

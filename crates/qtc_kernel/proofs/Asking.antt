-- What a call leaves of a future.
use Rattle.std.proofs.Common.{◌≡◌, ◌⊎◌, ℕ, ◌<◌, ◌≤◌, Bool, true, false, nat_lt, nat_eq, ◌&&◌, ◌||◌, is_none, List, [], Option, None, Some, IsTrue, if◌then◌else◌, inl, inr, refl, ap, ◌∙◌, arith}
use Rattle.std.proofs.lemmas.Bool.Decides.{nat_tests}
use Rattle.qtc_events.specs.Flags.{Standing}
use Rattle.qtc_events.specs.Calls.{after, has_effect}
use Rattle.qtc_events.specs.declared.calls.Call.{Call}
use Rattle.qtc_events.specs.declared.calls.Call.TheVariants.{Start, Suspend, Resume, ReportSuspended, Cancel, Fail, Finish}
use Rattle.qtc_events.specs.declared.entries.Reached.{Reached}
use Rattle.qtc_store.specs.Batches.{end_of, least_covered}
use Rattle.qtc_base.specs.Limits.{most_end}
use Rattle.qtc_store.specs.declared.batch.Batch.{Batch}
use Rattle.qtc_future.specs.Future.{Future, Logged, batch_of, batches_in, failure_of_call, flags_of, results_of}
use Rattle.qtc_future.specs.Steps.{Stepped, Effect, PastEnd, accepted as accepted_step, by_row, dropped as dropped_step, has_ended, judged, logged_by, offered, report_of, stays, step, with_call, with_report}
use Rattle.qtc_future.specs.declared.requests.Request.{Request}
use Rattle.qtc_future.specs.declared.requests.Request.TheVariants.{Start as AskStart, ReportBatch, AddResult, Account as AskAccount, SetSuspended, ReportSuspended as AskReportSuspended, Cancel as AskCancel, Fail as AskFail, Finish as AskFinish}
use Rattle.qtc_future.proofs.Growing.{flags-push}
use Rattle.qtc_kernel.specs.Machine.{Engine, accepted, after as after_event, dropped, fate_of, is_out, is_steering, report, with_report as with_reported}
use Rattle.qtc_kernel.specs.Workload.{Workload, first_bad}

-- ---- a batch

-- why a future may not take it
pub data IsRefused (future : Future (List ℕ)) (batch : Batch (List ℕ)) : Type 0 where
  ended : has_ended future ≡ true → IsRefused future batch
  covered : (index : ℕ) → least_covered (results_of future).batches batch.begin batch.total ≡ Some index → IsRefused future batch
  past : most_end < end_of batch → IsRefused future batch

abbrev pub reported : Future (List ℕ) → ℕ → Batch (List ℕ) → Logged (List ℕ)
reported future caller batch = logged_by future caller (report_of batch) batch.values []

-- it is logged, or leaves the future as it was
pub record Takes (future : Future (List ℕ)) (caller : ℕ) (batch : Batch (List ℕ)) (stepped : Stepped (List ℕ)) : Type 0 where
  pub going : has_ended future ≡ false
  pub fate : fate_of stepped.told ≡ accepted
  pub new_is : stepped.future ≡ with_call future (reported future caller batch)

pub record Leaves (future : Future (List ℕ)) (batch : Batch (List ℕ)) (stepped : Stepped (List ℕ)) : Type 0 where
  pub refused : IsRefused future batch
  pub fate : fate_of stepped.told ≡ dropped
  pub new_is : stepped.future ≡ future

abbrev pub Offers : Future (List ℕ) → ℕ → Batch (List ℕ) → Stepped (List ℕ) → Type 0
Offers future caller batch stepped = Takes future caller batch stepped ⊎ Leaves future batch stepped

chosen : (future : Future (List ℕ)) (caller : ℕ) (batch : Batch (List ℕ)) (b : Bool) (x y : Stepped (List ℕ)) → (b ≡ true → Offers future caller batch x) → (b ≡ false → Offers future caller batch y) → Offers future caller batch (if b then x else y)
chosen future caller batch true x y h k = h refl
chosen future caller batch false x y h k = k refl

some_logged : (future : Future (List ℕ)) (caller : ℕ) (batch : Batch (List ℕ)) → 0 < batch.total → with_report future caller batch ≡ with_call future (reported future caller batch)
some_logged future caller batch some = let is : nat_eq batch.total 0 ≡ false = grind (arith, nat_tests) in rw is refl

less_from : (a b : ℕ) → nat_lt a b ≡ true → a < b
less_from a b e = grind (arith, nat_tests)

judged_offers : (future : Future (List ℕ)) (caller : ℕ) (batch : Batch (List ℕ)) → 0 < batch.total → has_ended future ≡ false → (least : Option ℕ) → least_covered (results_of future).batches batch.begin batch.total ≡ least → Offers future caller batch (judged future caller batch least)
judged_offers future caller batch some going (Some index) e = inr (record { refused = covered index e; fate = refl; new_is = refl })
judged_offers future caller batch some going None e =
    chosen future caller batch (nat_lt most_end (end_of batch)) (stays future PastEnd) (accepted_step future caller batch)
    (λ h. inr (record { refused = past (less_from most_end (end_of batch) h); fate = refl; new_is = refl }))
    (λ h. inl (record { going = going; fate = refl; new_is = some_logged future caller batch some }))

pub offered_either : (future : Future (List ℕ)) (caller : ℕ) (batch : Batch (List ℕ)) → 0 < batch.total → Offers future caller batch (offered future caller batch)
offered_either future caller batch some =
    chosen future caller batch (has_ended future) (dropped_step future) (judged future caller batch (least_covered (results_of future).batches batch.begin batch.total))
    (λ h. inr (record { refused = ended h; fate = refl; new_is = refl }))
    (λ h. judged_offers future caller batch some h (least_covered (results_of future).batches batch.begin batch.total) refl)

-- where nothing refuses it, the future takes it
pub offered_taken : (future : Future (List ℕ)) (caller : ℕ) (batch : Batch (List ℕ)) → 0 < batch.total → has_ended future ≡ false → least_covered (results_of future).batches batch.begin batch.total ≡ None → end_of batch ≤ most_end → Takes future caller batch (offered future caller batch)
offered_taken future caller batch some going free within =
    elim (offered_either future caller batch some) [
      | inl takes ↦ takes
      | inr leaves ↦ elim leaves.refused [
        | ended e ↦ absurd (cc)
        | covered index e ↦ absurd (cc)
        | past h ↦ absurd (omega arith)
      ]
    ]

-- ---- any other call

-- as it was, or with a call that has an effect and carries no values
pub record IsLogged (future : Future (List ℕ)) (caller : ℕ) (call : Call) (item : List ℕ) (new : Future (List ℕ)) : Type 0 where
  pub effect : IsTrue (has_effect (flags_of future) call)
  pub new_is : new ≡ with_call future (logged_by future caller call [] item)

pub row_either : (future : Future (List ℕ)) (caller : ℕ) (call : Call) (item : List ℕ) → ((by_row future caller call item).future ≡ future) ⊎ IsLogged future caller call item (by_row future caller call item).future
row_either future caller call item =
    elim (has_effect (flags_of future) call) as (λ b. has_effect (flags_of future) call ≡ b → let stepped : Stepped (List ℕ) = if b then record { future = with_call future (logged_by future caller call [] item); told = Effect b } else stays future (Effect b) in (stepped.future ≡ future) ⊎ IsLogged future caller call item stepped.future) [
      | true ↦ λ e. inr (record { effect = e; new_is = refl })
      | false ↦ λ e. inl refl
    ] refl

-- a call that steers has no batch and no failure
pub record IsSteered (future : Future (List ℕ)) (new : Future (List ℕ)) : Type 0 where
  pub logged : Logged (List ℕ)
  pub new_is : new ≡ with_call future logged
  pub batch : batches_in logged ≡ []
  pub failure : failure_of_call logged.entry.call logged.item ≡ None

steered_row : (future : Future (List ℕ)) (caller : ℕ) (call : Call) → batch_of {V = List ℕ} call [] ≡ [] → failure_of_call call [] ≡ None → ((by_row future caller call []).future ≡ future) ⊎ IsSteered future (by_row future caller call []).future
steered_row future caller call batch failure =
    elim (row_either future caller call []) [
      | inl same ↦ inl same
      | inr more ↦ inr (record { logged = logged_by future caller call [] []; new_is = more.new_is; batch = batch; failure = failure })
    ]

toggled : (future : Future (List ℕ)) (caller : ℕ) (on : Bool) → let call = if on then Suspend else Resume in ((by_row future caller call []).future ≡ future) ⊎ IsSteered future (by_row future caller call []).future
toggled future caller true = steered_row future caller Suspend refl refl
toggled future caller false = steered_row future caller Resume refl refl

pub steered_either : (future : Future (List ℕ)) (caller : ℕ) (asked : Request (List ℕ)) → is_steering asked ≡ true → ((step future caller asked).future ≡ future) ⊎ IsSteered future (step future caller asked).future
steered_either future caller AskStart e = steered_row future caller Start refl refl
steered_either future caller (ReportBatch begin values total) e = absurd (cc)
steered_either future caller (AddResult index value) e = absurd (cc)
steered_either future caller (AskAccount total) e = absurd (cc)
steered_either future caller (SetSuspended on) e = toggled future caller on
steered_either future caller AskReportSuspended e = steered_row future caller ReportSuspended refl refl
steered_either future caller AskCancel e = steered_row future caller Cancel refl refl
steered_either future caller (AskFail index item) e = absurd (cc)
steered_either future caller AskFinish e = steered_row future caller Finish refl refl

-- ---- flags

canceled_after : (s : Standing) (call : Call) (reached : Reached) → s.canceled ≡ true → (after s call reached).canceled ≡ true
canceled_after s call reached h = grind arith

pub canceled_stays : (future : Future (List ℕ)) (logged : Logged (List ℕ)) → (flags_of future).canceled ≡ true → (flags_of (with_call future logged)).canceled ≡ true
canceled_stays future logged h = ap (λ (s : Standing). s.canceled) (flags-push future logged) ∙ canceled_after (flags_of future) logged.entry.call logged.entry.reached h

failed_after : (s : Standing) (index : ℕ) (reached : Reached) → (after s (Fail index) reached).canceled ≡ true
failed_after s index reached = grind arith

pub failed_canceled : (future : Future (List ℕ)) (caller index : ℕ) (item : List ℕ) → (flags_of (with_call future (logged_by future caller (Fail index) [] item))).canceled ≡ true
failed_canceled future caller index item =
    let logged = logged_by future caller (Fail index) [] item in
    ap (λ (s : Standing). s.canceled) (flags-push future logged) ∙ failed_after (flags_of future) index logged.entry.reached

-- ---- where Canceled stands

pub none_taken : (work : Workload) (engine : Engine) (caller : ℕ) (range : ℕ × ℕ) → IsTrue (flags_of engine.future).canceled → (after_event work engine (report caller range)).future ≡ engine.future
none_taken work engine caller range canceled =
    elim (is_out engine range && is_none (first_bad work range)) as (λ b. (if b then with_reported work engine caller range else engine).future ≡ engine.future) [
      | true ↦ let is : has_ended engine.future ≡ true = both_or (flags_of engine.future).canceled (flags_of engine.future).finished canceled in rw is refl
      | false ↦ refl
    ]
  where
    both_or : (a b : Bool) → a ≡ true → (a || b) ≡ true
    both_or a b e = grind arith

-- Legal lists of calls.
use Rattle.std.proofs.Common.{◌≡◌, ◌⊎◌, inl, inr, ℕ, Bool, true, false, ◌||◌, ◌&&◌, nat_lt, nat_eq, List, [], ◌∷◌, ◌++◌, Option, None, Some, All, IsTrue, length, if◌then◌else◌, refl, sym, ◌∙◌, subst, append_assoc, append-nil, arith}
use Rattle.std.proofs.lemmas.Bool.Decides.{nat_tests}
use Rattle.std.proofs.lemmas.List.{map-append}
use Rattle.std.proofs.lemmas.List.Elements.{All-nil, All-cons, All-head, All-tail}
use Rattle.qtc_events.specs.Flags.{Standing, new_flags}
use Rattle.qtc_events.specs.Calls.{row, has_effect, after_call, acts_as}
use Rattle.qtc_events.specs.Journal.{acts_with_effect, HaveEffect}
use Rattle.qtc_events.specs.Laws.{ThresholdsAct, JournalsEnd}
use Rattle.qtc_events.specs.declared.calls.Call.{Call}
use Rattle.qtc_events.specs.declared.calls.Call.TheVariants.{Start, Report, Account, Suspend, Resume, ReportSuspended, Cancel, Fail, Finish}
use Rattle.qtc_events.specs.declared.entries.Entry.{Entry}
use Rattle.qtc_events.specs.declared.entries.Reached.{Reached}
use Rattle.qtc_events.specs.declared.entries.Reached.TheVariants.{Nothing}
use Rattle.qtc_store.specs.Batches.{end_of, least_covered, IsWhole}
use Rattle.qtc_base.specs.Limits.{most_end}
use Rattle.qtc_store.specs.Stored.{batch_with, goes_at, NothingRefuses}
use Rattle.qtc_store.specs.declared.batch.Batch.{Batch}
use Rattle.qtc_future.specs.Future.{Future, Logged, batch_of, entries_of, flags_of, journal_of, results_of}
use Rattle.qtc_future.specs.Steps.{Stepped, Effect, Counted, PastEnd, accepted, by_row, counted, dropped, has_ended, judged, logged_by, offered, reached_by, report_of, stays, with_call}
use Rattle.qtc_future.specs.Legal.{AreEffective, Carries, IsAcceptable, IsEffective, IsLegal}
use Rattle.qtc_future.specs.Laws.{with_calls, EndsAreLast, IsLast, JournalsAreLegal, JournalsGrowByOne}
use Rattle.qtc_future.specs.declared.requests.Request.TheVariants.{Start as AskStart, ReportBatch, AddResult, Account as AskAccount, SetSuspended, ReportSuspended as AskReportSuspended, Cancel as AskCancel, Fail as AskFail, Finish as AskFinish}
use Rattle.qtc_future.proofs.Growing.{flags-push}
use Rattle.qtc_future.proofs.OneMore.{effective-push}
use Rattle.qtc_future.proofs.Plain.{idle_reached}

-- ---- in two parts
pub effective-split : {V : Type 0} (future : Future V) (calls later : List (Logged V)) → AreEffective future (calls ++ later) → AreEffective future calls × AreEffective (with_calls future calls) later
effective-split future [] later h =
    (tt, subst (λ xs. AreEffective (record future { calls = xs }) later) (sym (append-nil future.calls)) h)
effective-split future (first ∷ calls) later h =
    let rest = effective-split (with_call future first) calls later h.1 in
    ((h.0, rest.0), subst (λ xs. AreEffective (record future { calls = xs }) later) (append_assoc future.calls (first ∷ []) calls) rest.1)

-- ---- in the table of calls
counting_after : (s : Standing) (call : Call) → ((row call).counts ≡ 0) ⊎ (after_call s call ≡ s)
counting_after s (Report begin kept total) = inr refl
counting_after s (Account total) = inr refl
counting_after s _ = inl refl

counting_open : (s : Standing) (call : Call) → after_call s call ≡ s → IsTrue (has_effect s call) → ((row call).counts ≡ 0) ⊎ ((s.canceled ≡ false) × (s.finished ≡ false))
counting_open s (Report begin kept total) same h = inr (grind arith, grind arith)
counting_open s (Account total) same h = inr (grind arith, grind arith)
counting_open s _ same h = inl refl

acts_idle : (s : Standing) (reached : Reached) → Nothing ≡ reached → IsTrue (acts_with_effect s (acts_as reached))
acts_idle s reached e = subst (λ r. IsTrue (acts_with_effect s (acts_as r))) e refl

acts : {V : Type 0} → ThresholdsAct → (future : Future V) (logged : Logged V) → IsEffective future logged → IsTrue (acts_with_effect (after_call (flags_of future) logged.entry.call) (acts_as logged.entry.reached))
acts law future logged h =
    let s = flags_of future in
    let call = logged.entry.call in
    let idle : (row call).counts ≡ 0 → IsTrue (acts_with_effect (after_call s call) (acts_as logged.entry.reached)) = λ none. acts_idle (after_call s call) logged.entry.reached (idle_reached future call none ∙ sym h.reached) in
    elim (counting_after s call) [
      | inl none ↦ idle none
      | inr same ↦ elim (counting_open s call same h.effect) [
        | inl none ↦ idle none
        | inr going ↦ subst (λ (t : Standing). IsTrue (acts_with_effect t (acts_as logged.entry.reached))) (sym same)
            (subst (λ r. IsTrue (acts_with_effect s (acts_as r))) (sym h.reached) (law future.thresholds.cancel_after future.thresholds.suspend_after _ _ s going.0 going.1))
      ]
    ]

both : (a b : Bool) → IsTrue a → IsTrue b → IsTrue (a && b)
both true true h k = refl
both false b h k = absurd (cc)
both true false h k = absurd (cc)

have_effect : {V : Type 0} → ThresholdsAct → (future : Future V) (calls : List (Logged V)) → AreEffective future calls → HaveEffect (flags_of future) (entries_of calls)
have_effect law future [] h = tt
have_effect law future (logged ∷ calls) h = (
  both _ _ h.0.effect (acts law future logged h.0),
  subst (λ (s : Standing). HaveEffect s (entries_of calls)) (flags-push future logged) (have_effect law (with_call future logged) calls h.1),
)

pub legal_journal : {V : Type 0} → ThresholdsAct → (future : Future V) → IsLegal future → HaveEffect new_flags (journal_of future)
legal_journal law future h = have_effect law (record future { calls = [] }) future.calls h

all_entries : {V : Type 0} (calls : List (Logged V)) → All (λ (e : Entry). e.call ≡ Finish) (entries_of calls) → All (λ (l : Logged V). l.entry.call ≡ Finish) calls
all_entries {V = V} [] h = All-nil (λ (l : Logged V). l.entry.call ≡ Finish)
all_entries {V = V} (first ∷ calls) h =
    All-cons (λ (l : Logged V). l.entry.call ≡ Finish) first calls
    (All-head (λ (e : Entry). e.call ≡ Finish) first.entry (entries_of calls) h)
    (all_entries calls (All-tail (λ (e : Entry). e.call ≡ Finish) first.entry (entries_of calls) h))

none_entries : {V : Type 0} (calls : List (Logged V)) → entries_of calls ≡ [] → calls ≡ []
none_entries [] h = refl
none_entries (first ∷ calls) h = absurd (cc)

pub ends_are_last : (V : Type 0) → ThresholdsAct → JournalsEnd → EndsAreLast V
ends_are_last V law ends =
    let journal : (future : Future V) (later : List (Logged V)) → IsLegal (with_calls future later) → HaveEffect new_flags (entries_of future.calls ++ entries_of later) = λ future later h. subst (HaveEffect new_flags) (map-append (λ (l : Logged V). l.entry) future.calls later) (legal_journal law (with_calls future later) h) in
    record {
      canceled = λ future later h stands. all_entries later (ends.after_cancel (entries_of future.calls) (entries_of later) (journal future later h) stands);
      finished = λ future later h stands. none_entries later (ends.after_finish (entries_of future.calls) (entries_of later) (journal future later h) stands);
    }

-- ---- one step
abbrev Grows : {V : Type 0} → Future V → ℕ → Future V → Type 0
Grows {V} old caller new = (new ≡ old) ⊎ ((logged : Logged V) × IsLast old caller logged new)

chosen : {V : Type 0} (old : Future V) (caller : ℕ) (b : Bool) (x y : Stepped V) → (b ≡ true → Grows old caller x.future) → (b ≡ false → Grows old caller y.future) → Grows old caller (if b then x else y).future
chosen old caller true x y h k = h refl
chosen old caller false x y h k = k refl

row_grows : {V : Type 0} (future : Future V) (caller : ℕ) (call : Call) (item : List ℕ) → batch_of {V = V} call [] ≡ [] → Carries {V = V} call [] item → Grows future caller (by_row future caller call item).future
row_grows {V = V} future caller call item none carries =
    let effect = has_effect (flags_of future) call in
    let logged = logged_by future caller call [] item in
    chosen future caller effect (record { future = with_call future logged; told = Effect effect }) (stays future (Effect effect))
    (λ h. inr (
      logged,
      record {
        made = refl;
        effective = record {
          effect = h;
          reached = refl;
          batch = subst (λ (bs : List (Batch V)). All (IsAcceptable (results_of future)) bs) (sym none) (All-nil (IsAcceptable (results_of future)));
          carries = carries;
        };
        after = refl;
      },
    ))
    (λ h. inl refl)

toggle_batch : {V : Type 0} (on : Bool) → batch_of {V = V} (if on then Suspend else Resume) [] ≡ []
toggle_batch true = refl
toggle_batch false = refl

toggle_carries : (V : Type 0) (on : Bool) → Carries {V = V} (if on then Suspend else Resume) [] []
toggle_carries V true = (refl, refl)
toggle_carries V false = (refl, refl)

report_going : (s : Standing) (begin kept total : ℕ) → (s.canceled || s.finished) ≡ false → nat_eq total 0 ≡ false → IsTrue (has_effect s (Report begin kept total))
report_going s begin kept total going some = grind (arith, nat_tests)

account_going : (s : Standing) (total : ℕ) → (s.canceled || s.finished) ≡ false → IsTrue (has_effect s (Account total))
account_going s total going = grind arith

report_grows : {V : Type 0} (future : Future V) (caller : ℕ) (b : Batch V) → has_ended future ≡ false → IsWhole future.filter b → NothingRefuses (results_of future) b.begin b.total → (empty : Bool) → nat_eq b.total 0 ≡ empty → Grows future caller (if empty then future else with_call future (logged_by future caller (report_of b) b.values []))
report_grows future caller b going whole unrefused true e = inl refl
report_grows future caller b going whole unrefused false e =
    inr (
      logged_by future caller (report_of b) b.values [],
      record {
        made = refl;
        effective = record {
          effect = report_going (flags_of future) b.begin (length b.values) b.total going e;
          reached = refl;
          batch = All-cons (IsAcceptable (results_of future)) b [] (record { unrefused = unrefused; whole = whole }) (All-nil (IsAcceptable (results_of future)));
          carries = (refl, refl);
        };
        after = refl;
      },
    )

unrefused_by : {V : Type 0} (future : Future V) (b : Batch V) → least_covered (results_of future).batches b.begin b.total ≡ None → nat_lt most_end (end_of b) ≡ false → NothingRefuses (results_of future) b.begin b.total
unrefused_by future b none within = rw (none, within) refl

judged_grows : {V : Type 0} (future : Future V) (caller : ℕ) (b : Batch V) → has_ended future ≡ false → IsWhole future.filter b → (least : Option ℕ) → least_covered (results_of future).batches b.begin b.total ≡ least → Grows future caller (judged future caller b least).future
judged_grows future caller b going whole (Some index) e = inl refl
judged_grows future caller b going whole None e =
    chosen future caller (nat_lt most_end (end_of b)) (stays future PastEnd) (accepted future caller b)
    (λ h. inl refl)
    (λ h. report_grows future caller b going whole (unrefused_by future b e h) (nat_eq b.total 0) refl)

offered_grows : {V : Type 0} (future : Future V) (caller : ℕ) (b : Batch V) → IsWhole future.filter b → Grows future caller (offered future caller b).future
offered_grows future caller b whole =
    chosen future caller (has_ended future) (dropped future) (judged future caller b (least_covered (results_of future).batches b.begin b.total))
    (λ h. inl refl)
    (λ h. judged_grows future caller b h whole _ refl)

account_grows : {V : Type 0} (future : Future V) (caller total : ℕ) → Grows future caller (counted future caller total).future
account_grows future caller total =
    let logged = logged_by future caller (Account total) [] [] in
    chosen future caller (has_ended future) (dropped future) (record { future = with_call future logged; told = Counted (reached_by future (Account total)) })
    (λ h. inl refl)
    (λ h. inr (
      logged,
      record {
        made = refl;
        effective = record {
          effect = account_going (flags_of future) total h;
          reached = refl;
          batch = All-nil (IsAcceptable (results_of future));
          carries = (refl, refl);
        };
        after = refl;
      },
    ))

pub journals_grow_by_one : (V : Type 0) → JournalsGrowByOne V
journals_grow_by_one V future caller AskStart can = row_grows future caller Start [] refl (refl, refl)
journals_grow_by_one V future caller (ReportBatch begin values total) can =
    offered_grows future caller (batch_with begin values total) (record { few = can.0; whole = can.1 })
journals_grow_by_one V future caller (AddResult index value) can =
    offered_grows future caller (batch_with (goes_at (results_of future) index) (value ∷ []) 1) (record { few = omega arith; whole = λ _. refl })
journals_grow_by_one V future caller (AskAccount total) can = account_grows future caller total
journals_grow_by_one V future caller (SetSuspended on) can = row_grows future caller (if on then Suspend else Resume) [] (toggle_batch on) (toggle_carries V on)
journals_grow_by_one V future caller AskReportSuspended can = row_grows future caller ReportSuspended [] refl (refl, refl)
journals_grow_by_one V future caller AskCancel can = row_grows future caller Cancel [] refl (refl, refl)
journals_grow_by_one V future caller (AskFail index item) can = row_grows future caller (Fail index) item refl refl
journals_grow_by_one V future caller AskFinish can = row_grows future caller Finish [] refl (refl, refl)

legal_after : {V : Type 0} (old : Future V) (caller : ℕ) (new : Future V) → Grows old caller new → IsLegal old → IsLegal new
legal_after old caller new grows legal =
    elim grows [
      | inl same ↦ subst IsLegal (sym same) legal
      | inr more ↦ subst IsLegal (sym more.1.after) (effective-push (record old { calls = [] }) old.calls more.0 legal more.1.effective)
    ]

pub journals_are_legal : (V : Type 0) → ThresholdsAct → JournalsAreLegal V
journals_are_legal V law = record {
  journal = λ future h. legal_journal law future h;
  step = λ future caller request can legal. legal_after future caller _ (journals_grow_by_one V future caller request can) legal;
}

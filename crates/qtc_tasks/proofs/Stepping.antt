-- What a job's pauses and additions come to.
use Rattle.std.proofs.Common.{◌≡◌, ◌⊎◌, inl, inr, ℕ, ◌+◌, ◌<◌, ◌≤◌, Bool, true, false, not, ◌||◌, ◌&&◌, nat_lt, max, List, [], ◌∷◌, ◌++◌, Option, None, Some, Result, Ok, Err, IsOk, OnErr, All, IsTrue, MatchBool, length, if◌then◌else◌, refl, ap, sym, ◌∙◌, subst, append-nil, append_assoc, arith}
use Rattle.std.specs.List.{flat_map, list_any}
use Rattle.std.proofs.lemmas.List.Elements.{All-cons, All-nil, All-append}
use Rattle.std.proofs.lemmas.List.Folds.{list_any-append}
use Rattle.qtc_base.specs.declared.memory.NoMemory.{NoMemory}
use Rattle.qtc_base.specs.Limits.{most_end}
use Rattle.qtc_events.specs.Calls.{has_effect}
use Rattle.qtc_events.specs.Flags.{Standing, flags_in}
use Rattle.qtc_events.specs.declared.flags.Flags.{Flags}
use Rattle.qtc_events.specs.declared.calls.Call.{Call}
use Rattle.qtc_events.specs.declared.calls.Call.TheVariants.{Report, ReportSuspended}
use Rattle.qtc_future.specs.Answering.{IsTry}
use Rattle.qtc_future.specs.Future.{Future, Logged, flags_of, results_of}
use Rattle.qtc_future.specs.Steps.{Effect, by_row, logged_by, has_ended}
use Rattle.qtc_future.specs.declared.requests.Request.TheVariants.{AddResult, ReportSuspended as AskReportSuspended}
use Rattle.qtc_shared.specs.Journals.{calls_by, flags_at}
use Rattle.qtc_shared.specs.Laws.{has_seen, is_ended}
use Rattle.qtc_shared.specs.Parts.{future_at}
use Rattle.qtc_shared.specs.Passes.{PassState, Adds, IsHold, IsLook, IsPause, IsReport, IsWatch, Tries}
use Rattle.qtc_store.specs.Batches.{end_of}
use Rattle.qtc_store.specs.Stored.{batch_with, goes_at}
use Rattle.qtc_store.proofs.Offers.{greatest_end-in_order}
use Rattle.qtc_tasks.specs.Inside.{CanAdd, HasAdded, IsUnderWay, end_at}
use Rattle.qtc_tasks.specs.TaskJournals.{IsCall, IsReport as IsValue, IsWorkCall}
use Rattle.qtc_tasks.specs.Tasks.{TaskState}
use Rattle.qtc_tasks.specs.Turns.{AreAdded, IsOffered, IsPaused}
use Rattle.qtc_tasks.proofs.Answered.{by_its_row, end_later, left_out, none_at_end, offer_wants, own_of, row_wants, taken}
use Rattle.qtc_tasks.proofs.Passing.{Goes, goes_further, goes_same, hold_goes, look_goes, met_ended, own_call}

or_false : (b : Bool) → (b || false) ≡ b
or_false true = refl
or_false false = refl

pub not_true : (b : Bool) → (IsTrue b → ⊥) → b ≡ false
not_true true h = absurd (h refl)
not_true false h = refl

same_truth : (a b : Bool) → (IsTrue a → IsTrue b) → (IsTrue b → IsTrue a) → a ≡ b
same_truth true true f g = refl
same_truth true false f g = absurd (let x = f refl in cc)
same_truth false true f g = absurd (let x = g refl in cc)
same_truth false false f g = refl

or_second : (a b : Bool) → IsTrue b → IsTrue (a || b)
or_second true b h = refl
or_second false b h = h

last_any : (before : List Standing) (flags : Standing) → IsTrue (is_ended flags) → IsTrue (list_any is_ended (before ++ flags ∷ []))
last_any before flags h =
    subst IsTrue (sym (list_any-append is_ended before (flags ∷ []))) (or_second (list_any is_ended before) (list_any is_ended (flags ∷ [])) (subst IsTrue (sym (or_false (is_ended flags))) h))

-- where the work may be reported to stand still no end stands
pub suspends_no_end : (s : Standing) → has_effect s ReportSuspended ≡ true → is_ended s ≡ false
suspends_no_end s h = by s.suspended s.canceled s.finished _ h
  where
    by : (a b c d : Bool) → ((not a && (not b && (not c && true))) && d) ≡ true → (b || c) ≡ false
    by true b c d h = absurd (cc)
    by false true c d h = absurd (cc)
    by false false true d h = absurd (cc)
    by false false false d h = refl

module _ {V : Type 0} where
  pub record Reported (old new : PassState V) (answer : Result Bool NoMemory) : Type 0 where
    pub own : List (Logged V)
    pub read : List Standing
    pub goes : Goes old new own read
    pub stills : All (IsCall ReportSuspended [] []) own
    pub wants : OnErr answer (list_any is_ended read ≡ false)

  own_mine : (future : Future V) (number : ℕ) (call : Call) (item : List ℕ) (effect : Bool) → calls_by number (own_of future number call item effect) ≡ own_of future number call item effect
  own_mine future number call item true = own_call number (logged_by future number call [] item) refl
  own_mine future number call item false = refl

  pub row_calls : (future : Future V) (number : ℕ) (call : Call) (item : List ℕ) (effect : Bool) → All (IsCall call [] item) (own_of future number call item effect)
  row_calls future number call item true = All-cons (IsCall call [] item) _ [] (record { call_is = refl; values_are = refl; item_is = refl }) (All-nil (IsCall call [] item))
  row_calls future number call item false = All-nil (IsCall call [] item)

  pub row_goes : (old new : PassState V) (Does : Future V → Future V → Type 0) (call : Call) (item : List ℕ) (effect : Bool) (hold : IsHold old new Does)
      → new.known ≡ hold.journal ++ own_of (future_at old.of.terms hold.journal) old.number call item effect
      → Goes old new (own_of (future_at old.of.terms hold.journal) old.number call item effect) []
  row_goes old new Does call item effect hold after = hold_goes old new Does _ hold after (own_mine (future_at old.of.terms hold.journal) old.number call item effect)

  reported_by : (old looked new : PassState V) (flags : Standing) (answer : Result Bool NoMemory) → IsLook old looked flags → IsHold looked new (Tries looked AskReportSuspended Effect answer) → Reported old new answer
  reported_by old looked new flags (Ok effect) look hold =
      let f = future_at looked.of.terms hold.journal in
      let row = by_its_row f (future_at looked.of.terms new.known) looked.number ReportSuspended [] effect hold.done.ok in
      record {
        own = own_of f looked.number ReportSuspended [] effect;
        read = flags ∷ [];
        goes = goes_further old looked new [] _ (flags ∷ []) [] (look_goes old looked (flags ∷ []) look.pass) (row_goes looked new _ ReportSuspended [] effect hold row.1);
        stills = row_calls f looked.number ReportSuspended [] effect;
        wants = tt;
      }
  reported_by old looked new flags (Err wants) look hold =
      let f = future_at looked.of.terms hold.journal in
      let going : is_ended (flags_at hold.journal) ≡ false = suspends_no_end (flags_at hold.journal) (row_wants f looked.number ReportSuspended [] hold.done.sure) in
      let saw = (look_goes old looked (flags ∷ []) look.pass).sees in
      record {
        own = [];
        read = flags ∷ [];
        goes = goes_further old looked new [] [] (flags ∷ []) [] (look_goes old looked (flags ∷ []) look.pass) (hold_goes looked new _ [] hold (ap (λ f. f.calls) hold.done.err ∙ sym (append-nil hold.journal)) refl);
        stills = All-nil (IsCall ReportSuspended [] []);
        wants = not_true (list_any is_ended (flags ∷ [])) (λ ended.
            let stands = met_ended looked hold.journal hold.met (saw (or_right (has_seen is_ended old) (list_any is_ended (flags ∷ [])) ended)) in
            absurd (cc));
      }
    where
      or_right : (a b : Bool) → IsTrue b → IsTrue (a || b)
      or_right true b h = refl
      or_right false b h = h

  reported_where : (old looked new : PassState V) (flags : Standing) (answer : Result Bool NoMemory) (asked : Bool) → IsLook old looked flags
      → MatchBool asked (IsHold looked new (Tries looked AskReportSuspended Effect answer)) ((new ≡ looked) × (answer ≡ Ok false)) → Reported old new answer
  reported_where old looked new flags answer true look hold = reported_by old looked new flags answer look hold
  reported_where old looked new flags answer false look none = record {
    own = [];
    read = flags ∷ [];
    goes = subst (λ p. Goes old p [] (flags ∷ [])) (sym none.0) (look_goes old looked (flags ∷ []) look.pass);
    stills = All-nil (IsCall ReportSuspended [] []);
    wants = subst (λ (a : Result Bool NoMemory). OnErr a (list_any is_ended (flags ∷ []) ≡ false)) (sym none.1) tt;
  }

  pub reported : (old new : PassState V) (answer : Result Bool NoMemory) → IsReport old new answer → Reported old new answer
  reported old new answer report = reported_where old report.looked new report.flags answer report.flags.suspending report.look report.report

  -- a pause: the flags that were read have an end just where the last have
  pub record Rested (old new : PassState V) (ended : Bool) : Type 0 where
    pub own : List (Logged V)
    pub read : List Standing
    pub goes : Goes old new own read
    pub stills : All (IsCall ReportSuspended [] []) own
    pub reads : list_any is_ended read ≡ ended
    -- an end that was read is one that the pass has seen
    pub new_sees : IsTrue ended → IsTrue (has_seen is_ended new)

  rested_by : (old between new : PassState V) (answer : Result Bool NoMemory) (flags : Standing) → Reported old between answer → IsWatch between new flags → Rested old new (is_ended flags)
  rested_by old between new answer flags first watch =
      let looked = look_goes between new (watch.before ++ flags ∷ []) watch.pass in
      let all = goes_further old between new first.own [] first.read (watch.before ++ flags ∷ []) first.goes looked in
      let last = or_second (list_any is_ended first.read) (list_any is_ended (watch.before ++ flags ∷ [])) in
      let reads : IsTrue (list_any is_ended (first.read ++ (watch.before ++ flags ∷ []))) → IsTrue (is_ended flags) = λ h.
      subst (λ s. IsTrue (is_ended s)) (sym watch.now) (met_ended new watch.journal watch.met (all.sees (or_second (has_seen is_ended old) _ h))) in
      let back : IsTrue (is_ended flags) → IsTrue (list_any is_ended (first.read ++ (watch.before ++ flags ∷ []))) = λ h.
      subst IsTrue (sym (list_any-append is_ended first.read (watch.before ++ flags ∷ []))) (last (last_any watch.before flags h)) in
      record {
        own = first.own ++ [];
        read = first.read ++ (watch.before ++ flags ∷ []);
        goes = all;
        stills = All-append (IsCall ReportSuspended [] []) first.own [] first.stills (All-nil (IsCall ReportSuspended [] []));
        reads = same_truth _ _ reads back;
        new_sees = λ h. all.sees (or_second (has_seen is_ended old) _ (back h));
      }

  pub rested : (old new : PassState V) (ended : Bool) → IsPaused old new ended → Rested old new ended
  rested old new ended paused =
      let pause = paused.pause in
      subst (Rested old new) paused.showed (rested_by old pause.reported new pause.answer (flags_in paused.flags.bits) (reported old pause.reported pause.answer pause.report) pause.ok.0)

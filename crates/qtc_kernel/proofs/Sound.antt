-- What the future of an engine took.
use Rattle.std.proofs.Common.{◌≡◌, ◌⊎◌, ℕ, ◌+◌, ◌-◌, Bool, true, List, [], ◌∷◌, ◌++◌, All, Option, None, Some, map, inl, inr, refl, ap, sym, ◌∙◌, subst, append-nil, arith}
use Rattle.std.specs.Option.{option_or}
use Rattle.std.proofs.lemmas.List.{map-append}
use Rattle.std.proofs.lemmas.List.Elements.{All-nil, All-push}
use Rattle.qtc_store.specs.Stored.{batch_with}
use Rattle.qtc_store.specs.declared.batch.Batch.{Batch}
use Rattle.qtc_future.specs.Future.{Future, failure_of, reports_of}
use Rattle.qtc_future.specs.Laws.{JournalsAreLegal}
use Rattle.qtc_future.specs.Legal.{IsLegal}
use Rattle.qtc_future.specs.Runs.{CanAsk}
use Rattle.qtc_future.specs.Steps.{logged_by, step, with_call}
use Rattle.qtc_future.specs.declared.replies.Failure.{Failure}
use Rattle.qtc_future.specs.declared.requests.Request.{Request}
use Rattle.qtc_future.specs.declared.requests.Request.TheVariants.{ReportBatch, AddResult, Fail}
use Rattle.qtc_events.specs.declared.calls.Call.TheVariants.{Fail as FailCall}
use Rattle.qtc_future.proofs.Modes.{step-filter}
use Rattle.qtc_future.proofs.OneMore.{failure-push, reports-push}
use Rattle.qtc_ops.specs.ItemValue.{ItemValue, kept, dropped, bad}
use Rattle.qtc_kernel.specs.Laws.{FailuresAreBadItems, FuturesAreLegal, AcceptedBatchesAreRight, IsFailing}
use Rattle.qtc_kernel.specs.Machine.{Engine, Event, Mode, Settled, failed, fate_of, is_first_bad, is_out, is_steering, new_engine, reporting, run_of, with_claim, with_failure, with_report}
use Rattle.qtc_kernel.specs.Runs.{HasTexts, accepted_ranges, range_of, reported_ranges}
use Rattle.qtc_kernel.specs.Workload.{Suits, Workload, first_bad, is_bad, item_at, size_of, texts_in}
use Rattle.qtc_kernel.proofs.Asking.{offered_either, reported, row_either, steered_either}
use Rattle.qtc_kernel.proofs.Counted.{IsCounted, IsKept, IsPart, accepted-push, claim_counted, counted_kept, new_counted, out_part, run_kept, settled_as, taken_of}
use Rattle.qtc_kernel.proofs.Finding.{first_bad_in}
use Rattle.qtc_kernel.proofs.Kept.{texts-most, texts-whole}

pub record IsSound (work : Workload) (filter : Bool) (engine : Engine) : Type 0 where
  pub counted : IsCounted work engine
  pub mode : engine.future.filter ≡ filter
  pub texts : All (HasTexts work) (reports_of engine.future.calls)
  pub ranges : reported_ranges engine.future ≡ accepted_ranges engine
  pub failures : (failure : Failure) → failure_of engine.future ≡ Some failure → IsFailing work failure
  pub legal : Suits filter work → IsLegal engine.future

pub new_sound : (work : Workload) (filter : Bool) (cancel_after suspend_after : ℕ) → IsSound work filter (new_engine filter cancel_after suspend_after)
new_sound work filter cancel_after suspend_after = record {
  counted = new_counted work filter cancel_after suspend_after;
  mode = refl;
  texts = All-nil (HasTexts work);
  ranges = refl;
  failures = λ failure e. absurd (cc);
  legal = λ suits. tt;
}

pub claim_sound : (work : Workload) (filter : Bool) (engine : Engine) (size : ℕ) → IsSound work filter engine → IsSound work filter (with_claim work engine size)
claim_sound work filter engine size h = record {
  counted = claim_counted work engine size h.counted;
  mode = h.mode;
  texts = h.texts;
  ranges = h.ranges;
  failures = h.failures;
  legal = h.legal;
}

-- ---- a report

abbrev pub batch_in : Workload → ℕ × ℕ → Batch (List ℕ)
batch_in work range = batch_with range.0 (texts_in work range) (range.1 - range.0)

module _ (work : Workload) (filter : Bool) (range : ℕ × ℕ) (part : IsPart (size_of work) range) where
  pub batch_range : range_of (batch_in work range) ≡ range
  batch_range = let some = part.some in let end : range.0 + (range.1 - range.0) ≡ range.1 = omega arith in ap (λ e. (range.0, e)) end

  batch_texts : HasTexts work (batch_in work range)
  batch_texts = ap (texts_in work) (sym batch_range)

  pub can_report : first_bad work range ≡ None → Suits filter work → (future : Future (List ℕ)) → future.filter ≡ filter → CanAsk future.filter (ReportBatch range.0 (texts_in work range) (range.1 - range.0))
  can_report good suits future mode =
      let some = part.some in
      let within = part.within in (
        texts-most work range.0 range.1 (omega arith) within,
        λ plain. texts-whole work range.0 range.1 (omega arith) within (suits (sym mode ∙ plain)) good,
      )

pub reports_with : (future : Future (List ℕ)) (caller : ℕ) (batch : Batch (List ℕ)) → reports_of (with_call future (reported future caller batch)).calls ≡ reports_of future.calls ++ batch ∷ []
reports_with future caller batch = reports-push future.calls (reported future caller batch)

-- the ranges of reports are those of settled ranges that were taken, with one of each more
more_ranges : (old new : Future (List ℕ)) (engine : Engine) (settled : Settled) (batches : List (Batch (List ℕ))) → reported_ranges old ≡ accepted_ranges engine → reports_of new.calls ≡ reports_of old.calls ++ batches → map range_of batches ≡ taken_of settled → reported_ranges new ≡ accepted_ranges (record engine { settled = engine.settled ++ settled ∷ [] })
more_ranges old new engine settled batches was more one =
    ap (map range_of) more ∙ map-append range_of (reports_of old.calls) batches
    ∙ ap (λ rs. rs ++ map range_of batches) was ∙ ap (λ rs. accepted_ranges engine ++ rs) one
    ∙ sym (accepted-push engine.settled settled)

pub report_sound : JournalsAreLegal (List ℕ) → (work : Workload) (filter : Bool) (engine : Engine) (caller : ℕ) (range : ℕ × ℕ) → IsSound work filter engine → is_out engine range ≡ true → first_bad work range ≡ None → IsSound work filter (with_report work engine caller range)
report_sound law work filter engine caller range h there good =
    let stepped = reporting work engine caller range in
    let settled = settled_as range (fate_of stepped.told) in
    let part = out_part work engine range h.counted there in
    let batch = batch_in work range in
    let counted : IsCounted work (with_report work engine caller range) = (counted_kept work).reports engine caller range h.counted there good in
    let mode : stepped.future.filter ≡ filter = step-filter engine.future caller (ReportBatch range.0 (texts_in work range) (range.1 - range.0)) ∙ h.mode in
    let legal : Suits filter work → IsLegal stepped.future = λ suits. law.step engine.future caller (ReportBatch range.0 (texts_in work range) (range.1 - range.0)) (can_report work filter range part good suits engine.future h.mode) (h.legal suits) in
    elim (offered_either engine.future caller batch (let some = part.some in omega arith)) [
      | inl takes ↦
          let more : reports_of stepped.future.calls ≡ reports_of engine.future.calls ++ batch ∷ [] = ap (λ (f : Future (List ℕ)). reports_of f.calls) takes.new_is ∙ reports_with engine.future caller batch in
          let one : range_of batch ∷ [] ≡ taken_of settled = ap (λ r. r ∷ []) (batch_range work filter range part) ∙ ap (λ f. taken_of (settled_as range f)) (sym takes.fate) in
          record {
            counted = counted;
            mode = mode;
            texts = subst (All (HasTexts work)) (sym more) (All-push (HasTexts work) (reports_of engine.future.calls) batch h.texts (batch_texts work filter range part));
            ranges = more_ranges engine.future stepped.future engine settled (batch ∷ []) h.ranges more one;
            failures = λ failure e. h.failures failure (sym (ap failure_of takes.new_is ∙ failure-push engine.future.calls (reported engine.future caller batch) ∙ or_none (failure_of engine.future)) ∙ e);
            legal = legal;
          }
      | inr leaves ↦
          let more : reports_of stepped.future.calls ≡ reports_of engine.future.calls ++ [] = ap (λ (f : Future (List ℕ)). reports_of f.calls) leaves.new_is ∙ sym (append-nil (reports_of engine.future.calls)) in
          let one : [] ≡ taken_of settled = ap (λ f. taken_of (settled_as range f)) (sym leaves.fate) in
          record {
            counted = counted;
            mode = mode;
            texts = subst (λ (f : Future (List ℕ)). All (HasTexts work) (reports_of f.calls)) (sym leaves.new_is) h.texts;
            ranges = more_ranges engine.future stepped.future engine settled [] h.ranges more one;
            failures = λ failure e. h.failures failure (sym (ap failure_of leaves.new_is) ∙ e);
            legal = legal;
          }
    ]
  where
    or_none : (o : Option Failure) → option_or o None ≡ o
    or_none None = refl
    or_none (Some f) = refl

-- ---- a failure

-- a failure that is kept is an earlier one, or this
earlier_or : (earlier : Option Failure) (last failure : Failure) → option_or earlier (Some last) ≡ Some failure → (earlier ≡ Some failure) ⊎ (last ≡ failure)
earlier_or None last failure e = inr (cc)
earlier_or (Some first) last failure e = inl e

bad_from : (value : ItemValue) → is_bad value ≡ true → value ≡ bad
bad_from (kept text) e = absurd (cc)
bad_from dropped e = absurd (cc)
bad_from bad e = refl

pub fail_sound : JournalsAreLegal (List ℕ) → (work : Workload) (filter : Bool) (engine : Engine) (caller : ℕ) (range : ℕ × ℕ) (index : ℕ) → IsSound work filter engine → is_out engine range ≡ true → is_first_bad work range index ≡ true → IsSound work filter (with_failure work engine caller range index)
fail_sound law work filter engine caller range index h there first =
    let item = item_at work index in
    let new = (step engine.future caller (Fail index item)).future in
    let part = out_part work engine range h.counted there in
    let settled = settled_as range failed in
    let at = first_bad_in work range index (let some = part.some in omega arith) first in
    let counted : IsCounted work (with_failure work engine caller range index) = (counted_kept work).fails engine caller range index h.counted there first in
    let mode : new.filter ≡ filter = step-filter engine.future caller (Fail index item) ∙ h.mode in
    let legal : Suits filter work → IsLegal new = λ suits. law.step engine.future caller (Fail index item) tt (h.legal suits) in
    let logged = logged_by engine.future caller (FailCall index) [] item in
    let same_reports : reports_of new.calls ≡ reports_of engine.future.calls = elim (row_either engine.future caller (FailCall index) item) [
      | inl same ↦ ap (λ (f : Future (List ℕ)). reports_of f.calls) same
      | inr more ↦ ap (λ (f : Future (List ℕ)). reports_of f.calls) more.new_is ∙ reports-push engine.future.calls logged ∙ append-nil (reports_of engine.future.calls)
    ] in
    let last : Failure = record { index = index; item = item } in
    let own : IsFailing work last = record {
      within = let high = at.high in let within = part.within in omega arith;
      bad_value = bad_from (work.value (item_at work index)) at.bad_item;
      item_is = refl;
    } in
    record {
      counted = counted;
      mode = mode;
      texts = subst (All (HasTexts work)) (sym same_reports) h.texts;
      ranges = more_ranges engine.future new engine settled [] h.ranges (same_reports ∙ sym (append-nil (reports_of engine.future.calls))) refl;
      failures = λ failure e. elim (row_either engine.future caller (FailCall index) item) [
        | inl same ↦ h.failures failure (sym (ap failure_of same) ∙ e)
        | inr more ↦ elim (earlier_or (failure_of engine.future) last failure (sym (ap failure_of more.new_is ∙ failure-push engine.future.calls logged) ∙ e)) [
          | inl earlier ↦ h.failures failure earlier
          | inr this ↦ subst (IsFailing work) this own
        ]
      ];
      legal = legal;
    }

-- ---- any other call

can_steer : (filter : Bool) (asked : Request (List ℕ)) → is_steering asked ≡ true → CanAsk filter asked
can_steer filter (ReportBatch begin values total) e = absurd (cc)
can_steer filter (AddResult index value) e = absurd (cc)
can_steer filter _ e = tt

pub ask_sound : JournalsAreLegal (List ℕ) → (work : Workload) (filter : Bool) (engine : Engine) (caller : ℕ) (asked : Request (List ℕ)) → IsSound work filter engine → is_steering asked ≡ true → IsSound work filter (record engine { future = (step engine.future caller asked).future })
ask_sound law work filter engine caller asked h ok =
    let new = (step engine.future caller asked).future in
    let counted = (counted_kept work).asks engine caller asked h.counted ok in
    let mode : new.filter ≡ filter = step-filter engine.future caller asked ∙ h.mode in
    let legal : Suits filter work → IsLegal new = λ suits. law.step engine.future caller asked (can_steer engine.future.filter asked ok) (h.legal suits) in
    elim (steered_either engine.future caller asked ok) [
      | inl same ↦ record {
        counted = counted;
        mode = mode;
        texts = subst (λ (f : Future (List ℕ)). All (HasTexts work) (reports_of f.calls)) (sym same) h.texts;
        ranges = ap reported_ranges same ∙ h.ranges;
        failures = λ failure e. h.failures failure (sym (ap failure_of same) ∙ e);
        legal = legal;
      }
      | inr more ↦
          let reports : reports_of new.calls ≡ reports_of engine.future.calls = ap (λ (f : Future (List ℕ)). reports_of f.calls) more.new_is ∙ reports-push engine.future.calls more.logged ∙ ap (λ bs. reports_of engine.future.calls ++ bs) more.batch ∙ append-nil (reports_of engine.future.calls) in
          let failure_same : failure_of new ≡ failure_of engine.future = ap failure_of more.new_is ∙ failure-push engine.future.calls more.logged ∙ ap (option_or (failure_of engine.future)) more.failure ∙ or_none (failure_of engine.future) in
          record {
            counted = counted;
            mode = mode;
            texts = subst (All (HasTexts work)) (sym reports) h.texts;
            ranges = ap (map range_of) reports ∙ h.ranges;
            failures = λ failure e. h.failures failure (sym failure_same ∙ e);
            legal = legal;
          }
    ]
  where
    or_none : (o : Option Failure) → option_or o None ≡ o
    or_none None = refl
    or_none (Some f) = refl

-- ---- every list of events

pub sound_kept : JournalsAreLegal (List ℕ) → (work : Workload) (filter : Bool) → IsKept work (IsSound work filter)
sound_kept law work filter = record {
  claims = λ engine size h ok. claim_sound work filter engine size h;
  reports = λ engine caller range h there good. report_sound law work filter engine caller range h there good;
  fails = λ engine caller range index h there first. fail_sound law work filter engine caller range index h there first;
  asks = λ engine caller asked h ok. ask_sound law work filter engine caller asked h ok;
}

pub run_sound : JournalsAreLegal (List ℕ) → (work : Workload) (mode : Mode) (events : List Event) → IsSound work mode.filter (run_of work mode events)
run_sound law work mode events =
    run_kept work (IsSound work mode.filter) (new_engine mode.filter mode.cancel_after mode.suspend_after) events (sound_kept law work mode.filter)
    (new_sound work mode.filter mode.cancel_after mode.suspend_after)

pub accepted_batches_are_right : JournalsAreLegal (List ℕ) → AcceptedBatchesAreRight
accepted_batches_are_right law work mode events = let h = run_sound law work mode events in record {
  texts = h.texts;
  ranges = h.ranges;
  called = h.counted.taken;
}

pub failures_are_bad_items : JournalsAreLegal (List ℕ) → FailuresAreBadItems
failures_are_bad_items law work mode events failure e = (run_sound law work mode events).failures failure e

pub futures_are_legal : JournalsAreLegal (List ℕ) → FuturesAreLegal
futures_are_legal law work mode events suits = (run_sound law work mode events).legal suits

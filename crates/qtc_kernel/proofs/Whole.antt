-- A run that came to its end without a cancel, and with no result after Finish.
use Rattle.std.proofs.Common.{◌≡◌, ℕ, ◌-◌, ◌<◌, ◌≤◌, ◌||◌, ◌&&◌, min, nat_lt, nat_le, Bool, true, false, List, [], ◌∷◌, ◌++◌, All, None, filter, map, is_none, inl, inr, refl, ap, sym, ◌∙◌, subst, arith}
use Rattle.std.specs.Prelude.{Contains}
use Rattle.std.proofs.lemmas.Bool.{false≢true}
use Rattle.std.proofs.lemmas.Bool.Decides.{nat_tests}
use Rattle.std.proofs.lemmas.List.Elements.{All-head, All-tail, All-nil, All-push}
use Rattle.qtc_base.specs.Ranges.{Tiles, in_range, times_covered}
use Rattle.qtc_events.specs.Flags.{Standing}
use Rattle.qtc_events.specs.Calls.{has_effect}
use Rattle.qtc_events.specs.declared.calls.Call.TheVariants.{Fail as FailCall}
use Rattle.qtc_store.specs.Batches.{in_order, is_covered, least_covered}
use Rattle.qtc_store.specs.Stored.{IsFirstResults}
use Rattle.qtc_store.proofs.First.{first_results}
use Rattle.qtc_store.proofs.Keeping.{batches_keep_results}
use Rattle.qtc_store.proofs.Offers.{is_covered-in_order}
use Rattle.qtc_future.specs.Future.{Future, flags_of, reports_of, results_of}
use Rattle.qtc_future.specs.Laws.{JournalsAreLegal}
use Rattle.qtc_future.specs.Legal.{IsLegal}
use Rattle.qtc_future.specs.Steps.{by_row, has_ended, logged_by, step, with_call}
use Rattle.qtc_future.proofs.Staying.{legal_store}
use Rattle.qtc_ops.specs.ItemValue.{ItemValue, kept, dropped, bad}
use Rattle.qtc_ops.specs.Kept.{fails_at}
use Rattle.qtc_ops.proofs.KeptLemmas.{fails-contain}
use Rattle.qtc_kernel.specs.Laws.{WholeRunsAreSequential}
use Rattle.qtc_kernel.specs.Machine.{Engine, Event, Settled, accepted, after, ask, claim, fail, fate_of, is_first_bad, is_out, is_size, is_steering, look, new_engine, report, reporting, run_from, run_of, with_claim, with_failure, with_report}
use Rattle.qtc_kernel.specs.Runs.{AreInTime, HasTexts, IsThrough, accepted_ranges, claimed_ranges, is_late, is_taken, reported_ranges, times_called}
use Rattle.qtc_kernel.specs.Workload.{Workload, bad_indexes, first_bad, is_bad, item_at, kept_texts, size_of}
use Rattle.qtc_kernel.proofs.Asking.{canceled_stays, failed_canceled, offered_taken, row_either, steered_either}
use Rattle.qtc_kernel.proofs.Counted.{IsKept, after_kept, both_left, both_right, chosen, out_once, out_part, run_kept, settled_as, settled_ranges}
use Rattle.qtc_kernel.proofs.Counting.{below, covers, one_taken, times-cons}
use Rattle.qtc_kernel.proofs.Finding.{none_bad, none_from, none_in}
use Rattle.qtc_kernel.proofs.Kept.{texts-all}
use Rattle.qtc_kernel.proofs.Sound.{IsSound, batch_in, new_sound, sound_kept}
use Rattle.qtc_kernel.proofs.Tiled.{all_in_order, none_covers, one_covers, shown}

-- ---- Canceled stays

abbrev IsCanceled : Engine → Type 0
IsCanceled engine = (flags_of engine.future).canceled ≡ true

canceled_kept : (work : Workload) → IsKept work IsCanceled
canceled_kept work = record {
  claims = λ engine size h ok. h;
  reports = λ engine caller range h there good. reported_canceled engine caller range h;
  fails = λ engine caller range index h there first.
      let item = item_at work index in
      elim (row_either engine.future caller (FailCall index) item) [
        | inl same ↦ ap (λ (f : Future (List ℕ)). (flags_of f).canceled) same ∙ h
        | inr more ↦ ap (λ (f : Future (List ℕ)). (flags_of f).canceled) more.new_is ∙ canceled_stays engine.future (logged_by engine.future caller (FailCall index) [] item) h
      ];
  asks = λ engine caller asked h ok.
      elim (steered_either engine.future caller asked ok) [
        | inl same ↦ ap (λ (f : Future (List ℕ)). (flags_of f).canceled) same ∙ h
        | inr more ↦ ap (λ (f : Future (List ℕ)). (flags_of f).canceled) more.new_is ∙ canceled_stays engine.future more.logged h
      ];
}
  where
    both_or : (a b : Bool) → a ≡ true → (a || b) ≡ true
    both_or a b e = grind arith

    reported_canceled : (engine : Engine) (caller : ℕ) (range : ℕ × ℕ) → IsCanceled engine → (flags_of (reporting work engine caller range).future).canceled ≡ true
    reported_canceled engine caller range h =
        let is : has_ended engine.future ≡ true = both_or (flags_of engine.future).canceled (flags_of engine.future).finished h in
        rw is h

-- what is not canceled afterwards wasn't before
going_before : (b c : Bool) → (b ≡ true → c ≡ true) → c ≡ false → b ≡ false
going_before true c h e = absurd (false≢true (sym e ∙ h refl))
going_before false c h e = refl

-- ---- nothing that is out is covered

module _ (work : Workload) (filter : Bool) (engine : Engine) (range : ℕ × ℕ) (h : IsSound work filter engine) (there : is_out engine range ≡ true) where
  covers_in : (index begin end : ℕ) → begin ≤ index → index < end → covers index (begin, end) ≡ 1
  covers_in index begin end low high = grind (arith, nat_tests)

  none_reported : (index : ℕ) → range.0 ≤ index → index < range.1 → is_covered (results_of engine.future).batches index ≡ false
  none_reported index low high =
      let part = out_part work engine range h.counted there in
      let once = out_once work engine h.counted index in
      let first = out_once work engine h.counted range.0 in
      let out = one_taken range part.some engine.out there (omega arith) index in
      let own = covers_in index range.0 range.1 low high in
      let calls = h.counted.calls index in
      let taken = h.counted.taken index in
      let same : times_covered (reported_ranges engine.future) index ≡ times_covered (accepted_ranges engine) index = ap (λ rs. times_covered rs index) h.ranges in
      is_covered-in_order (reports_of engine.future.calls) index ∙ none_covers (reports_of engine.future.calls) index (omega arith)

  pub none_least : least_covered (results_of engine.future).batches range.0 (range.1 - range.0) ≡ None
  none_least =
      let part = out_part work engine range h.counted there in
      let some = part.some in
      none_in (is_covered (results_of engine.future).batches) range.0 (range.1 - range.0) (λ index low high. none_reported index low (omega arith))

-- ---- every range that came back was taken

record IsTakenWhole (work : Workload) (settled : Settled) : Type 0 where
  taken : settled.fate ≡ accepted
  good : first_bad work settled.range ≡ None

record IsGoing (work : Workload) (filter : Bool) (engine : Engine) : Type 0 where
  sound : IsSound work filter engine
  all : All (IsTakenWhole work) engine.settled

has_ended-none : (s : Standing) → s.canceled ≡ false → s.finished ≡ false → (s.canceled || s.finished) ≡ false
has_ended-none s canceled finished = grind arith

fail_effect : (s : Standing) (index : ℕ) → s.canceled ≡ false → s.finished ≡ false → has_effect s (FailCall index) ≡ true
fail_effect s index canceled finished = grind arith

report_going : (work : Workload) (filter : Bool) (engine : Engine) (caller : ℕ) (range : ℕ × ℕ) → size_of work ≤ 8388608 → IsGoing work filter engine → IsSound work filter (with_report work engine caller range) → (flags_of engine.future).canceled ≡ false → (flags_of engine.future).finished ≡ false → is_out engine range ≡ true → first_bad work range ≡ None → IsGoing work filter (with_report work engine caller range)
report_going work filter engine caller range few h sound canceled finished there good =
    let part = out_part work engine range h.sound.counted there in
    let some = part.some in
    let within = part.within in
    let going = has_ended-none (flags_of engine.future) canceled finished in
    let takes = offered_taken engine.future caller (batch_in work range) (omega arith) going (none_least work filter engine range h.sound there) (omega arith) in
    record {
      sound = sound;
      all = All-push (IsTakenWhole work) engine.settled (settled_as range (fate_of (reporting work engine caller range).told)) h.all (record { taken = takes.fate; good = good });
    }

failure_cancels : (work : Workload) (engine : Engine) (caller : ℕ) (range : ℕ × ℕ) (index : ℕ) → (flags_of engine.future).canceled ≡ false → (flags_of engine.future).finished ≡ false → (flags_of (with_failure work engine caller range index).future).canceled ≡ true
failure_cancels work engine caller range index canceled finished =
    let item = item_at work index in
    let effect = fail_effect (flags_of engine.future) index canceled finished in
    let new : (by_row engine.future caller (FailCall index) item).future ≡ with_call engine.future (logged_by engine.future caller (FailCall index) [] item) = rw effect refl in
    ap (λ (f : Future (List ℕ)). (flags_of f).canceled) new ∙ failed_canceled engine.future caller index item

-- the engine after an event, where it isn't canceled
abbrev Goes : Workload → Bool → Engine → Type 0
Goes work filter engine = (flags_of engine.future).canceled ≡ false → IsSound work filter engine → IsGoing work filter engine

goes : (work : Workload) (filter : Bool) (engine : Engine) (event : Event) → size_of work ≤ 8388608 → IsGoing work filter engine → is_late engine event ≡ false → (flags_of engine.future).canceled ≡ false → Goes work filter (after work engine event)
goes work filter engine look few h late before = λ canceled sound. h
goes work filter engine (claim size) few h late before =
    chosen (Goes work filter) (is_size size) (with_claim work engine size) engine (λ e canceled sound. record { sound = sound; all = h.all }) (λ canceled sound. h)
goes work filter engine (report caller range) few h late before =
    chosen (Goes work filter) (is_out engine range && is_none (first_bad work range)) (with_report work engine caller range) engine
    (λ e canceled sound. report_going work filter engine caller range few h sound before late (both_left (is_out engine range) _ e) (none_from (first_bad work range) (both_right (is_out engine range) _ e)))
    (λ canceled sound. h)
goes work filter engine (fail caller range index) few h late before =
    chosen (Goes work filter) (is_out engine range && is_first_bad work range index) (with_failure work engine caller range index) engine
    (λ e canceled sound. absurd (false≢true (sym canceled ∙ failure_cancels work engine caller range index before late)))
    (λ canceled sound. h)
goes work filter engine (ask caller asked) few h late before =
    chosen (Goes work filter) (is_steering asked) (record engine { future = (step engine.future caller asked).future }) engine
    (λ e canceled sound. record { sound = sound; all = h.all }) (λ canceled sound. h)

going_after : JournalsAreLegal (List ℕ) → (work : Workload) (filter : Bool) (engine : Engine) (event : Event) → size_of work ≤ 8388608 → IsGoing work filter engine → is_late engine event ≡ false → (flags_of (after work engine event).future).canceled ≡ false → IsGoing work filter (after work engine event)
going_after law work filter engine event few h late canceled =
    let sound = after_kept work (IsSound work filter) engine event (sound_kept law work filter) h.sound in
    let before = going_before (flags_of engine.future).canceled (flags_of (after work engine event).future).canceled (λ e. after_kept work IsCanceled engine event (canceled_kept work) e) canceled in
    goes work filter engine event few h late before canceled sound

going_from : JournalsAreLegal (List ℕ) → (work : Workload) (filter : Bool) (engine : Engine) (events : List Event) → size_of work ≤ 8388608 → IsGoing work filter engine → AreInTime work engine events → (flags_of (run_from work engine events).future).canceled ≡ false → IsGoing work filter (run_from work engine events)
going_from law work filter engine [] few h in_time canceled = h
going_from law work filter engine (event ∷ events) few h in_time canceled =
    let next = after work engine event in
    let before = going_before (flags_of next.future).canceled (flags_of (run_from work next events).future).canceled (λ e. run_kept work IsCanceled next events (canceled_kept work) e) canceled in
    going_from law work filter next events few (going_after law work filter engine event few h in_time.0 before) in_time.1 canceled

-- ---- the end

all_accepted : (work : Workload) (settled : List Settled) → All (IsTakenWhole work) settled → map (λ (s : Settled). s.range) (filter (λ (s : Settled). is_taken s.fate) settled) ≡ map (λ (s : Settled). s.range) settled
all_accepted work [] all = refl
all_accepted work (first ∷ settled) all =
    let head = All-head (IsTakenWhole work) first settled all in
    let is : is_taken first.fate ≡ true = ap is_taken head.taken in
    rw is (ap (λ rs. first.range ∷ rs) (all_accepted work settled (All-tail (IsTakenWhole work) first settled all)))

good_item : (work : Workload) (settled : List Settled) (index : ℕ) → All (IsTakenWhole work) settled → 1 ≤ times_covered (map (λ (s : Settled). s.range) settled) index → is_bad (work.value (item_at work index)) ≡ false
good_item work [] index all some = absurd (omega arith)
good_item work (first ∷ settled) index all some =
    let head = All-head (IsTakenWhole work) first settled all in
    let parts = times-cons index first.range (map (λ (s : Settled). s.range) settled) in
    elim (in_range index first.range) as (λ b. in_range index first.range ≡ b → is_bad (work.value (item_at work index)) ≡ false) [
      | true ↦ λ e. let at = bounds index first.range.0 first.range.1 e in none_bad work first.range index head.good at.0 at.1
      | false ↦ λ e. good_item work settled index (All-tail (IsTakenWhole work) first settled all) (let none : covers index first.range ≡ 0 = outside index first.range.0 first.range.1 e in omega arith)
    ] refl
  where
    bounds : (index begin end : ℕ) → (nat_le begin index && nat_lt index end) ≡ true → (begin ≤ index) × (index < end)
    bounds index begin end e = (grind (arith, nat_tests), grind (arith, nat_tests))

    outside : (index begin end : ℕ) → (nat_le begin index && nat_lt index end) ≡ false → covers index (begin, end) ≡ 0
    outside index begin end e = grind (arith, nat_tests)

empty_from : (xs : List ℕ) → ((x : ℕ) → Contains xs x → ⊥) → xs ≡ []
empty_from [] none = refl
empty_from (x ∷ xs) none = absurd (none x (0, omega arith, refl))

fails_bad : (value : ItemValue) → fails_at (λ text. false) value ≡ true → is_bad value ≡ true
fails_bad (kept text) e = absurd (cc)
fails_bad dropped e = absurd (cc)
fails_bad bad e = refl

pub none_fails : (work : Workload) → ((index : ℕ) → index < size_of work → is_bad (work.value (item_at work index)) ≡ false) → bad_indexes work ≡ []
none_fails work good = empty_from (bad_indexes work) (λ index c.
    let found = (fails-contain work.value (λ text. false) work.items index).0 c in
    false≢true (sym (good index found.0) ∙ fails_bad (work.value (item_at work index)) found.1))

module _ (work : Workload) (filter : Bool) (engine : Engine) (h : IsGoing work filter engine) (through : IsThrough work engine) where
  covered_once : (index : ℕ) → times_covered (settled_ranges engine) index ≡ below index (size_of work)
  covered_once index =
      let tiled = h.sound.counted.tiled index in
      let claimed = through.claimed in
      let same : claimed_ranges engine ≡ settled_ranges engine = ap (λ out. out ++ settled_ranges engine) through.back in
      let all : min engine.next (size_of work) ≡ size_of work = omega arith in
      sym (ap (λ rs. times_covered rs index) same) ∙ tiled ∙ ap (below index) all

  below_yes : (index m : ℕ) → index < m → below index m ≡ 1
  below_yes index m less = grind (arith, nat_tests)

  below_no : (index m : ℕ) → m ≤ index → below index m ≡ 0
  below_no index m past = grind (arith, nat_tests)

  accepted_all : accepted_ranges engine ≡ settled_ranges engine
  accepted_all = all_accepted work engine.settled h.all

  reported_once : (index : ℕ) → times_covered (reported_ranges engine.future) index ≡ below index (size_of work)
  reported_once index = ap (λ rs. times_covered rs index) (h.sound.ranges ∙ accepted_all) ∙ covered_once index

  whole_tiled : Tiles (reported_ranges engine.future) (size_of work)
  whole_tiled = record {
    once = λ index less. reported_once index ∙ below_yes index (size_of work) less;
    none = λ index past. reported_once index ∙ below_no index (size_of work) past;
  }

  whole_called : (index : ℕ) → index < size_of work → times_called engine.called index ≡ 1
  whole_called index less =
      let calls = h.sound.counted.calls index in
      let taken = h.sound.counted.taken index in
      let same : times_covered (accepted_ranges engine) index ≡ times_covered (settled_ranges engine) index = ap (λ rs. times_covered rs index) accepted_all in
      let once = covered_once index in
      let one = below_yes index (size_of work) less in
      omega arith

  whole_good : bad_indexes work ≡ []
  whole_good = none_fails work (λ index less. good_item work engine.settled index h.all (let once = covered_once index in let one = below_yes index (size_of work) less in omega arith))

  whole_results : IsLegal engine.future → IsFirstResults (results_of engine.future) (kept_texts work)
  whole_results legal =
      let reports = reports_of engine.future.calls in
      let store = legal_store (batches_keep_results _) engine.future legal in
      let all = shown work 0 (in_order reports) store.apart (all_in_order (HasTexts work) reports h.sound.texts) (omega arith)
      (λ index low less. is_covered-in_order reports index ∙ one_covers reports index (let once = reported_once index in let one = below_yes index (size_of work) less in omega arith))
      (λ index past. is_covered-in_order reports index ∙ none_covers reports index (reported_once index ∙ below_no index (size_of work) past)) in
      subst (IsFirstResults (results_of engine.future)) (all ∙ texts-all work) (first_results engine.future.filter (in_order reports) store)

pub whole_runs_are_sequential : JournalsAreLegal (List ℕ) → WholeRunsAreSequential
whole_runs_are_sequential law work mode events suits few through in_time =
    let first = new_engine mode.filter mode.cancel_after mode.suspend_after in
    let start : IsGoing work mode.filter first = record { sound = new_sound work mode.filter mode.cancel_after mode.suspend_after; all = All-nil (IsTakenWhole work) } in
    let last = going_from law work mode.filter first events few start in_time through.going in
    let engine = run_of work mode events in
    record {
      results = whole_results work mode.filter engine last through (last.sound.legal suits);
      good = whole_good work mode.filter engine last through;
      called = whole_called work mode.filter engine last through;
      tiled = whole_tiled work mode.filter engine last through;
    }

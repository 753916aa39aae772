-- What the desks of an engine keep, put together once all of them were brought in.
use Rattle.std.proofs.Common.{◌≡◌, ◌⊎◌, ℕ, ◌+◌, ◌<◌, ◌≤◌, Bool, true, false, not, ◌||◌, ◌&&◌, ◌==◌, nat_lt, List, [], ◌∷◌, ◌++◌, All, cond, map, length, fold, if◌then◌else◌, inl, inr, refl, ap, sym, ◌∙◌, subst, arith, append-nil, length-append}
use Rattle.std.specs.Prelude.{Contains}
use Rattle.std.specs.List.{list_any}
use native.Mathlib.Decide.{dec_lt}
use Rattle.std.proofs.lemmas.Bool.{false≢true}
use Rattle.std.proofs.lemmas.Bool.Decides.{nat_tests}
use Rattle.std.proofs.lemmas.List.{map-append}
use Rattle.std.proofs.lemmas.List.Elements.{All-append, All-cons, All-head, All-nil, All-tail, All-weaker, filter-append}
use Rattle.std.proofs.lemmas.List.Sums.{sum_by-cons}
use Rattle.qtc_base.specs.Ranges.{Tiles, times_covered}
use Rattle.qtc_claim.specs.Claims.{Addition, Worker, claims_of, clipped, gave, times_numbered}
use Rattle.qtc_claim.specs.Counter.{CounterId, HasAll, IsGathered, KnowsClaims}
use Rattle.qtc_events.specs.Flags.{Standing, new_flags}
use Rattle.qtc_events.specs.Calls.{after, has_effect}
use Rattle.qtc_events.specs.Journal.{after_entry}
use Rattle.qtc_events.specs.declared.calls.Call.{Call}
use Rattle.qtc_events.specs.declared.calls.Call.TheVariants.{Start, Report, Account, Suspend, Resume, ReportSuspended, Cancel, Fail, Finish}
use Rattle.qtc_events.specs.declared.entries.Reached.{Reached}
use Rattle.qtc_future.specs.Future.{Future, Logged, entries_of, flags_of, reports_of}
use Rattle.qtc_future.specs.Steps.{Effect, by_row, logged_by, stays, with_call}
use Rattle.qtc_future.specs.declared.requests.Request.TheVariants.{Finish as AskFinish}
use Rattle.qtc_future.proofs.Growing.{flags-push}
use Rattle.qtc_ops.specs.ItemValue.{ItemValue}
use Rattle.qtc_shared.specs.Journals.{BeginsWith, IsAllowed, IsJournal, Saw, calls_by, flags_at, is_makers}
use Rattle.qtc_shared.specs.Parts.{Terms, future_at}
use Rattle.qtc_shared.specs.Laws.{KnownIsKept}
use Rattle.qtc_shared.specs.Passes.{FutureId, IsHold, Makes, Meets, PassState, Stays}
use Rattle.qtc_shared.proofs.Prefixes.{begins_further, begins_same, saw_begins}
use Rattle.qtc_kernel.specs.OwnPasses.{opening}
use Rattle.qtc_kernel.specs.declared.kinds.Kind.{Kind}
use Rattle.qtc_kernel.proofs.OwnPasses.{desk_no_report, plain_passes}
use Rattle.qtc_kernel.specs.EngineParts.{AreReported, EngineParts, DeskState, HasMetEnd, FitTogether, HasBoard, IsBoardCall, IsDesk, IsLeft, IsOwnCall, given_at, is_report, is_strange, ranges_by, reporter, shows_end, work_of}
use Rattle.qtc_kernel.specs.BroughtIn.{AreBroughtIn, IsUncovered}
use Rattle.qtc_kernel.specs.Endings.{AreSettled, IsMet, functions_at, workers_at}
use Rattle.qtc_kernel.specs.Gathering.{IsClaimed, gathered_ranges}
use Rattle.qtc_kernel.specs.Runs.{range_of, times_called}
use Rattle.qtc_kernel.specs.WorkedOut.{IsWorkedOut, calls_of}
use Rattle.qtc_kernel.specs.Workload.{Workload}
use Rattle.qtc_kernel.proofs.AtDesks.{own_more}
use Rattle.qtc_kernel.proofs.Asking.{canceled_stays}
use Rattle.qtc_kernel.proofs.Boards.{none_strange as none_strange_reports, reports_gathered}
use Rattle.qtc_kernel.proofs.Counting.{calls-append, times-append, times-cons}
use Rattle.qtc_kernel.proofs.Ended.{ends}
use Rattle.qtc_kernel.proofs.Ending.{IsOurs, all_ours, desks_are_worked_out, not_finish, tail_by, unfinished_after}
use Rattle.qtc_kernel.proofs.Gathering.{all_left}
use Rattle.qtc_kernel.proofs.Passing.{Journal, begins_more, calls_by-append, contained_on, met_end, none_reported, ranges_by-append, reports_rest, stays_known, strange_on}

-- ---- the finish

finish_stood : (s : Standing) → has_effect s Finish ≡ false → s.finished ≡ true
finish_stood s h = grind arith

finish_ends : (s : Standing) (reached : Reached) → (after s Finish reached).finished ≡ true
finish_ends s reached = grind arith

-- it was logged, or the future was finished before
finished_either : (future new : Future (List ℕ)) (caller : ℕ) → new ≡ (by_row future caller Finish []).future
    → ((new ≡ future) × ((flags_of future).finished ≡ true)) ⊎ (new ≡ with_call future (logged_by future caller Finish [] []))
finished_either future new caller is = by (has_effect (flags_of future) Finish) refl is
  where
    by : (b : Bool) → has_effect (flags_of future) Finish ≡ b
        → new ≡ (if b then record { future = with_call future (logged_by future caller Finish [] []); told = Effect b } else stays future (Effect b)).future
        → ((new ≡ future) × ((flags_of future).finished ≡ true)) ⊎ (new ≡ with_call future (logged_by future caller Finish [] []))
    by true e is = inr is
    by false e is = inl (is, finish_stood (flags_of future) e)

-- in both cases it is finished now
pub finished_now : (future new : Future (List ℕ)) (caller : ℕ) → new ≡ (by_row future caller Finish []).future → (flags_of new).finished ≡ true
finished_now future new caller is = elim (finished_either future new caller is) [
  | inl same ↦ ap (λ (f : Future (List ℕ)). (flags_of f).finished) same.0 ∙ same.1
  | inr more ↦
      let logged : Logged (List ℕ) = logged_by future caller Finish [] [] in
      ap (λ (f : Future (List ℕ)). (flags_of f).finished) more ∙ ap (λ (s : Standing). s.finished) (flags-push future logged) ∙ finish_ends (flags_of future) logged.entry.reached
]

-- in a hold of the future; the pass then met what that left
module _ (old between new : PassState (List ℕ)) (effect : Bool) (finish : IsHold old between (Makes old AskFinish (Effect effect))) (stay : IsHold between new Stays) (kept : KnownIsKept (List ℕ)) where
  pub known_same : new.known ≡ between.known
  known_same =
      stays_known between new stay
      ∙ kept.last between stay.journal stay.met (finished_now (future_at old.of.terms finish.journal) (future_at old.of.terms between.known) old.number finish.done.future)

  pub finished_new : (flags_at new.known).finished ≡ true
  finished_new =
      ap (λ (journal : Journal). (flags_at journal).finished) known_same
      ∙ finished_now (future_at old.of.terms finish.journal) (future_at old.of.terms between.known) old.number finish.done.future

  pub lawful_new : IsJournal old.of.terms new.known
  lawful_new =
      subst (IsJournal old.of.terms) (sym (stays_known between new stay))
      (subst (λ (f : FutureId). IsJournal f.terms stay.journal) (ap (λ (p : PassState (List ℕ)). p.of) finish.pass) stay.met.lawful)

  pub future_new : future_at old.of.terms new.known ≡ (by_row (future_at old.of.terms finish.journal) old.number Finish []).future
  future_new = ap (future_at old.of.terms) known_same ∙ finish.done.future

-- ---- whose calls they are

module _ (kind : Kind) (terms : Terms) (work : Workload) (n : ℕ) (sizes : List ℕ) (pieces : List Addition) (workers : ℕ) (calls : List ℕ) where
  unfinished_from : (s : Standing) (journal : Journal) → s.finished ≡ false → All (IsOurs kind terms work n sizes pieces workers calls) journal → (fold after_entry s (entries_of journal)).finished ≡ false
  unfinished_from s [] none ours = none
  unfinished_from s (logged ∷ journal) none ours =
      unfinished_from (after_entry s logged.entry) journal
      (unfinished_after s logged.entry.call logged.entry.reached
      (not_finish kind terms work n sizes pieces workers calls logged (All-head (IsOurs kind terms work n sizes pieces workers calls) logged journal ours)) none)
      (All-tail (IsOurs kind terms work n sizes pieces workers calls) logged journal ours)

  unfinished : (journal : Journal) → All (IsOurs kind terms work n sizes pieces workers calls) journal → (flags_at journal).finished ≡ false
  unfinished journal ours = unfinished_from new_flags journal refl ours

  abbrev Own : Logged (List ℕ) → Type 0
  Own logged = IsOwnCall kind terms work false calls logged

  report_makers : (call : Call) → is_report call ≡ true → is_makers call ≡ true
  report_makers (Report begin kept total) e = refl
  report_makers Start e = absurd (cc)
  report_makers (Account total) e = absurd (cc)
  report_makers Suspend e = absurd (cc)
  report_makers Resume e = absurd (cc)
  report_makers ReportSuspended e = absurd (cc)
  report_makers Cancel e = absurd (cc)
  report_makers (Fail index) e = absurd (cc)
  report_makers Finish e = absurd (cc)

  not_strange : (logged : Logged (List ℕ)) → (logged.entry.caller < workers → Own logged) → IsAllowed (workers + 1) logged → is_strange workers logged ≡ false
  not_strange logged own allowed =
      elim (is_report logged.entry.call) as (λ b. is_report logged.entry.call ≡ b → (b && not (logged.entry.caller == workers)) ≡ false) [
        | true ↦ λ e. by (dec_lt logged.entry.caller workers) e
        | false ↦ λ e. refl
      ] refl
    where
      same : (caller : ℕ) → caller ≡ workers → not (caller == workers) ≡ false
      same caller is = grind (arith, nat_tests)

      by : Dec (logged.entry.caller < workers) → is_report logged.entry.call ≡ true → not (logged.entry.caller == workers) ≡ false
      by (yes less) e = absurd (false≢true (sym (desk_no_report kind terms logged.entry.call (own less).own) ∙ e))
      by (no more) e = let below : logged.entry.caller < workers + 1 = allowed.maker (report_makers logged.entry.call e) in same logged.entry.caller (omega arith)

  -- one number alone reports
  none_is_strange : (journal : Journal) → ((number : ℕ) → number < workers → All Own (calls_by number journal)) → All (IsAllowed (workers + 1)) journal → list_any (is_strange workers) journal ≡ false
  none_is_strange [] own allowed = refl
  none_is_strange (logged ∷ journal) own allowed =
      both (is_strange workers logged) (list_any (is_strange workers) journal)
      (not_strange logged (λ below. All-head Own logged (calls_by logged.entry.caller journal) (subst (All Own) (here logged.entry.caller refl) (own logged.entry.caller below))) (All-head (IsAllowed (workers + 1)) logged journal allowed))
      (none_is_strange journal (λ number below. tail_by kind terms work n sizes pieces workers calls Own number logged journal (own number below)) (All-tail (IsAllowed (workers + 1)) logged journal allowed))
    where
      both : (a b : Bool) → a ≡ false → b ≡ false → (a || b) ≡ false
      both a b h k = grind arith

      here : (number : ℕ) → logged.entry.caller ≡ number → calls_by number (logged ∷ journal) ≡ logged ∷ calls_by number journal
      here number is = let same : (logged.entry.caller == number) ≡ true = grind (arith, nat_tests) in rw same refl

-- ---- sums over desks

times_both : (n index : ℕ) (xs ys : List Addition) → times_covered (map (clipped n) (xs ++ ys)) index ≡ times_covered (map (clipped n) xs) index + times_covered (map (clipped n) ys) index
times_both n index xs ys = ap (λ ranges. times_covered ranges index) (map-append (clipped n) xs ys) ∙ times-append index (map (clipped n) xs) (map (clipped n) ys)

-- those that gave a piece cover no more than all
times_gave : (n index : ℕ) (claims : List Addition) → times_covered (map (clipped n) (gave n claims)) index ≤ times_covered (map (clipped n) claims) index
times_gave n index [] = omega arith
times_gave n index (claim ∷ claims) =
    let rest = times_gave n index claims in
    let all = times-cons index (clipped n claim) (map (clipped n) claims) in
    elim (nat_lt claim.begin n) as (λ b. times_covered (map (clipped n) (cond b (claim ∷ gave n claims) (gave n claims))) index ≤ times_covered (map (clipped n) (claim ∷ claims)) index) [
      | true ↦ let some = times-cons index (clipped n claim) (map (clipped n) (gave n claims)) in omega arith
      | false ↦ omega arith
    ]

module _ {F : Type 0} (value : F → List ℕ → ItemValue) (called : F → List ℕ) (parts : EngineParts F) where
  given_claims : (desk : DeskState F) (desks : List (DeskState F)) → gave parts.counter.n (claims_of (workers_at (desk ∷ desks))) ≡ given_at parts.counter.n desk ++ gave parts.counter.n (claims_of (workers_at desks))
  given_claims desk desks = filter-append (λ (addition : Addition). nat_lt addition.begin parts.counter.n) desk.seat.worker.claims (claims_of (workers_at desks))

  -- the calls of their functions
  abbrev pub calls_at : List (DeskState F) → List ℕ
  calls_at desks = calls_of called (functions_at desks)

  most : (index : ℕ) (desks : List (DeskState F)) → All (IsDesk value called parts) desks → times_called (calls_at desks) index ≤ times_covered (map (clipped parts.counter.n) (claims_of (workers_at desks))) index
  most index [] all = omega arith
  most index (desk ∷ desks) all =
      let rest = most index desks (All-tail (IsDesk value called parts) desk desks all) in
      let own = (All-head (IsDesk value called parts) desk desks all).worked.most index in
      let some = times_gave parts.counter.n index desk.seat.worker.claims in
      let calls = calls-append index (called desk.function) (calls_at desks) in
      let claims = times_both parts.counter.n index desk.seat.worker.claims (claims_of (workers_at desks)) in
      omega arith

  -- each of them called no more than all
  each_calls : (desks : List (DeskState F)) (calls : List ℕ) → ((index : ℕ) → times_called (calls_at desks) index ≤ times_called calls index) → All (λ desk. (index : ℕ) → times_called (called desk.function) index ≤ times_called calls index) desks
  each_calls [] calls all = All-nil (λ desk. (index : ℕ) → times_called (called desk.function) index ≤ times_called calls index)
  each_calls (desk ∷ desks) calls all =
      All-cons (λ d. (index : ℕ) → times_called (called d.function) index ≤ times_called calls index) desk desks
      (λ index. let parts = calls-append index (called desk.function) (calls_at desks) in let most = all index in omega (arith, parts, most))
      (each_calls desks calls (λ index. let parts = calls-append index (called desk.function) (calls_at desks) in let most = all index in omega (arith, parts, most)))

  -- the last one's calls may stand first
  pub calls_turned : (first : DeskState F) (others : List (DeskState F)) (index : ℕ) → times_called (calls_at (others ++ first ∷ [])) index ≡ times_called (calls_at (first ∷ others)) index
  calls_turned first [] index = refl
  calls_turned first (desk ∷ desks) index =
      let rest = calls_turned first desks index in
      let left = calls-append index (called desk.function) (calls_at (desks ++ first ∷ [])) in
      let one = calls-append index (called first.function) (calls_at desks) in
      let two = calls-append index (called first.function) (calls_at (desk ∷ desks)) in
      let three = calls-append index (called desk.function) (calls_at desks) in
      omega (arith, rest, left, one, two, three)

  -- ---- a desk that was brought in

  -- what it knows and what it met is in the journal, with its own calls
  record IsIn (calls : List ℕ) (journal : Journal) (desk : DeskState F) : Type 0 where
    desk_is : IsDesk value called parts desk
    own : All (IsOwnCall parts.kind parts.future.terms (work_of value parts) false calls) (calls_by desk.seat.worker.number journal)
    begins : BeginsWith journal desk.pass.known
    ends : HasMetEnd desk.pass → shows_end (flags_at journal) ≡ true

  -- a desk that wanted no memory, and whose calls are among these
  record IsSettling (calls : List ℕ) (desk : DeskState F) : Type 0 where
    desk_is : IsDesk value called parts desk
    wants_memory : desk.wants_memory ≡ false
    more : (index : ℕ) → times_called (called desk.function) index ≤ times_called calls index

  are_settling : (calls : List ℕ) (desks : List (DeskState F)) → All (IsDesk value called parts) desks → All (λ desk. desk.wants_memory ≡ false) desks → All (λ desk. (index : ℕ) → times_called (called desk.function) index ≤ times_called calls index) desks
      → All (IsSettling calls) desks
  are_settling calls [] are wants_memory more = All-nil (IsSettling calls)
  are_settling calls (desk ∷ desks) are wants_memory more =
      let Wants : DeskState F → Type 0 = λ d. d.wants_memory ≡ false in
      let More : DeskState F → Type 0 = λ d. (index : ℕ) → times_called (called d.function) index ≤ times_called calls index in
      All-cons (IsSettling calls) desk desks (record { desk_is = All-head (IsDesk value called parts) desk desks are; wants_memory = All-head Wants desk desks wants_memory; more = All-head More desk desks more })
      (are_settling calls desks (All-tail (IsDesk value called parts) desk desks are) (All-tail Wants desk desks wants_memory) (All-tail More desk desks more))

  own_met : (calls : List ℕ) (desk : DeskState F) (journal : Journal) → IsSettling calls desk → Meets desk.pass journal → All (IsOwnCall parts.kind parts.future.terms (work_of value parts) false calls) (calls_by desk.seat.worker.number journal)
  own_met calls desk journal is met =
      subst (λ k. All (IsOwnCall parts.kind parts.future.terms (work_of value parts) false calls) (calls_by k journal)) is.desk_is.seated.numbered
      (subst (All (IsOwnCall parts.kind parts.future.terms (work_of value parts) false calls)) (sym met.own)
      (All-weaker (IsOwnCall parts.kind parts.future.terms (work_of value parts) desk.wants_memory (called desk.function)) (IsOwnCall parts.kind parts.future.terms (work_of value parts) false calls)
      (λ logged. own_more parts.kind parts.future.terms (work_of value parts) desk.wants_memory false (called desk.function) calls logged (λ wants. sym is.wants_memory ∙ wants) is.more) (calls_by desk.pass.number desk.pass.known) is.desk_is.own))

  first_in : (calls : List ℕ) (desk : DeskState F) (journal : Journal) → IsSettling calls desk → Meets desk.pass journal → IsIn calls journal desk
  first_in calls desk journal is met = record {
    desk_is = is.desk_is;
    own = own_met calls desk journal is met;
    begins = saw_begins desk.pass.known journal desk.pass.seen met.saw;
    ends = met_end desk.pass.known journal desk.pass.seen met.saw;
  }

  other_in : (calls : List ℕ) (desk : DeskState F) (first journal known : Journal) → IsSettling calls desk → IsMet first desk → BeginsWith journal first → Meets desk.pass known → BeginsWith known journal → IsIn calls journal desk
  other_in calls desk first journal known is met grew later begins =
      let before : BeginsWith journal desk.pass.known = begins_further desk.pass.known first journal met.known grew in
      let number = desk.seat.worker.number in
      let P = IsOwnCall parts.kind parts.future.terms (work_of value parts) false calls in
      record {
        desk_is = is.desk_is;
        own = all_left P (calls_by number journal) (calls_by number begins.later)
            (subst (All P) (ap (calls_by number) begins.is ∙ calls_by-append number journal begins.later) (own_met calls desk known is later));
        begins = before;
        ends = met_end desk.pass.known journal desk.pass.seen (subst (Saw desk.pass.known journal) (sym met.unseen) before);
      }

  others_in : (calls : List ℕ) (desks : List (DeskState F)) (first journal known : Journal) → All (IsSettling calls) desks → All (IsMet first) desks → BeginsWith journal first
      → All (λ desk. Meets desk.pass known) desks → BeginsWith known journal → All (IsIn calls journal) desks
  others_in calls [] first journal known are met grew later begins = All-nil (IsIn calls journal)
  others_in calls (desk ∷ desks) first journal known are met grew later begins =
      let Later : DeskState F → Type 0 = λ d. Meets d.pass known in
      All-cons (IsIn calls journal) desk desks
      (other_in calls desk first journal known (All-head (IsSettling calls) desk desks are) (All-head (IsMet first) desk desks met) grew (All-head Later desk desks later) begins)
      (others_in calls desks first journal known (All-tail (IsSettling calls) desk desks are) (All-tail (IsMet first) desk desks met) grew (All-tail Later desk desks later) begins)

  -- whoever has a number among them made just its own calls
  own_all : (calls : List ℕ) (journal : Journal) (number : ℕ) (desks : List (DeskState F)) → All (IsIn calls journal) desks → 1 ≤ times_numbered number (workers_at desks) → All (IsOwnCall parts.kind parts.future.terms (work_of value parts) false calls) (calls_by number journal)
  own_all calls journal number [] all some = absurd (omega arith)
  own_all calls journal number (desk ∷ desks) all some =
      let P = IsOwnCall parts.kind parts.future.terms (work_of value parts) false calls in
      elim (desk.seat.worker.number == number) as (λ b. (desk.seat.worker.number == number) ≡ b → All P (calls_by number journal)) [
        | true ↦ λ e. subst (λ k. All P (calls_by k journal)) (equal desk.seat.worker.number number e) (All-head (IsIn calls journal) desk desks all).own
        | false ↦ λ e.
            own_all calls journal number desks (All-tail (IsIn calls journal) desk desks all)
            (let counts = sum_by-cons (λ (worker : Worker). cond (worker.number == number) 1 0) desk.seat.worker (workers_at desks) in
            let none : cond {A = ℕ} (desk.seat.worker.number == number) 1 0 ≡ 0 = ap (λ b. cond {A = ℕ} b 1 0) e in
            omega arith)
      ] refl
    where
      equal : (a b : ℕ) → (a == b) ≡ true → a ≡ b
      equal a b e = grind (arith, nat_tests)

  -- what they left, of which no report covers an index
  record AreLeft (journal : Journal) (desks : List (DeskState F)) : Type 0 where
    left : List Addition
    uncovered : All (IsUncovered parts.counter.n journal) left
    least : (index : ℕ) → times_covered (map (clipped parts.counter.n) (gave parts.counter.n (claims_of (workers_at desks)))) index
        ≤ times_called (calls_at desks) index + times_covered (map (clipped parts.counter.n) left) index

  are_left : (terms : Terms) (calls : List ℕ) (journal : Journal) (desks : List (DeskState F)) → IsJournal terms journal → reports_of journal ≡ reports_of (calls_by (reporter parts) journal) → All (IsIn calls journal) desks → AreLeft journal desks
  are_left terms calls journal [] lawful plain all = record { left = []; uncovered = All-nil (IsUncovered parts.counter.n journal); least = λ index. omega arith }
  are_left terms calls journal (desk ∷ desks) lawful plain all =
      let n = parts.counter.n in
      let is = All-head (IsIn calls journal) desk desks all in
      let others = are_left terms calls journal desks lawful plain (All-tail (IsIn calls journal) desk desks all) in
      let own = is.desk_is.left in
      record {
        left = own ++ others.left;
        uncovered = All-append (IsUncovered n journal) own others.left
            (All-weaker (IsLeft n (reporter parts) desk.pass) (IsUncovered n journal)
            (λ claim left index low high.
            ap (λ batches. times_covered (map range_of batches) index) plain
            ∙ ap (λ ranges. times_covered ranges index) (reports_rest terms desk.pass.known journal is.begins lawful left.ended (reporter parts))
            ∙ left.uncovered index low high) own is.desk_is.board.left_are)
            others.uncovered;
        least = λ index.
            let worked = is.desk_is.worked in
            let rest = others.least index in
            let least = worked.least index in
            let parts : times_covered (map (clipped n) (given_at n desk)) index ≡ times_covered (map (clipped n) worked.whole) index + times_covered (map (clipped n) own) index =
            ap (λ claims. times_covered (map (clipped n) claims) index) worked.parts ∙ times_both n index worked.whole own
            in
            let all_given : times_covered (map (clipped n) (gave n (claims_of (workers_at (desk ∷ desks))))) index ≡ times_covered (map (clipped n) (given_at n desk)) index + times_covered (map (clipped n) (gave n (claims_of (workers_at desks)))) index =
            ap (λ claims. times_covered (map (clipped n) claims) index) (given_claims desk desks) ∙ times_both n index (given_at n desk) (gave n (claims_of (workers_at desks)))
            in
            let calls' = calls-append index (called desk.function) (calls_at desks) in
            let lefts = times_both n index own others.left in
            omega (arith, rest, least, parts, all_given, calls', lefts);
      }

  -- where nothing was canceled, each claim was reported
  all_reported : (calls : List ℕ) (journal : Journal) (desks : List (DeskState F)) → All (IsIn calls journal) desks → (shows_end (flags_at journal) ≡ true → ⊥) → list_any (is_strange (reporter parts)) journal ≡ false
      → AreReported parts.counter.n (reporter parts) (gave parts.counter.n (claims_of (workers_at desks))) journal
  all_reported calls journal [] all going none = All-nil (λ claim. Contains (ranges_by (reporter parts) journal) (clipped parts.counter.n claim))
  all_reported calls journal (desk ∷ desks) all going none =
      subst (λ claims. AreReported parts.counter.n (reporter parts) claims journal) (sym (given_claims desk desks))
      (All-append Reported (given_at parts.counter.n desk) (gave parts.counter.n (claims_of (workers_at desks))) one (all_reported calls journal desks (All-tail (IsIn calls journal) desk desks all) going none))
    where
      Reported : Addition → Type 0
      Reported claim = Contains (ranges_by (reporter parts) journal) (clipped parts.counter.n claim)

      is : IsIn calls journal desk
      is = All-head (IsIn calls journal) desk desks all

      one : All Reported (given_at parts.counter.n desk)
      one = elim is.desk_is.board.handed [
        | inl reported ↦ All-weaker (λ claim. Contains (ranges_by (reporter parts) desk.pass.known) (clipped parts.counter.n claim)) Reported (λ claim. contained_on (reporter parts) desk.pass.known journal (clipped parts.counter.n claim) is.begins) (given_at parts.counter.n desk) reported
        | inr (inl met) ↦ absurd (going (is.ends met))
        | inr (inr strange) ↦ absurd (false≢true (sym none ∙ strange_on (reporter parts) desk.pass.known journal is.begins strange))
      ]

-- ---- all together

module _ {F : Type 0} (value : F → List ℕ → ItemValue) (called : F → List ℕ) (parts : EngineParts F) (fits : FitTogether value parts) (has : HasBoard parts) (first : DeskState F) (others : List (DeskState F)) (known : Journal) (ended : Bool) (s : AreSettled value parts first others known ended)
    (count : length (first ∷ others) ≡ parts.counter.workers) (first_is : IsDesk value called parts first) (others_are : All (IsDesk value called parts) others) (met : All (IsMet first.pass.known) others)
    (over : (parts.counter.n ≤ first.seat.worker.seen) ⊎ HasMetEnd first.pass) (no_want : first.wants_memory ≡ false) (none_want : All (λ desk. desk.wants_memory ≡ false) others)
    (calls : List ℕ) (calls_are : (index : ℕ) → times_called calls index ≡ times_called (calls_at value called parts (first ∷ others)) index) where
  abbrev work : Workload
  work = work_of value parts

  abbrev n : ℕ
  n = parts.counter.n

  abbrev desks : List (DeskState F)
  desks = first ∷ others

  abbrev terms : Terms
  terms = first.pass.of.terms

  terms_are : terms ≡ parts.future.terms
  terms_are = ap (λ (f : FutureId). f.terms) first_is.seated.future

  abbrev logged : Logged (List ℕ)
  logged = logged_by (future_at terms s.journal) first.pass.number Finish [] []

  abbrev before_finish : Future (List ℕ)
  before_finish = future_at terms s.journal

  either : ((known ≡ s.journal) × ((flags_at s.journal).finished ≡ true)) ⊎ (known ≡ s.journal ++ logged ∷ [])
  either = elim (finished_either (future_at terms s.journal) (future_at terms known) first.pass.number s.finished) [
    | inl same ↦ inl (ap (λ (f : Future (List ℕ)). f.calls) same.0, same.1)
    | inr more ↦ inr (ap (λ (f : Future (List ℕ)). f.calls) more)
  ]

  begins : BeginsWith known s.journal
  begins = elim either [
    | inl same ↦ subst (λ k. BeginsWith k s.journal) (sym same.0) (begins_same s.journal)
    | inr more ↦ subst (λ k. BeginsWith k s.journal) (sym more) (begins_more s.journal (logged ∷ []))
  ]

  are_desks : All (IsDesk value called parts) desks
  are_desks = All-cons (IsDesk value called parts) first others first_is others_are

  are_in : All (IsIn value called parts calls s.journal) desks
  are_in =
      let P = IsSettling value called parts calls in
      let Wants : DeskState F → Type 0 = λ d. d.wants_memory ≡ false in
      let all = are_settling value called parts calls desks are_desks (All-cons Wants first others no_want none_want) (each_calls value called parts desks calls (λ index. let are = calls_are index in omega (arith, are))) in
      let one = first_in value called parts calls first s.journal (All-head P first others all) s.met in
      All-cons (IsIn value called parts calls s.journal) first others one
      (others_in value called parts calls others first.pass.known s.journal known (All-tail P first others all) met one.begins s.others_met begins)

  -- ---- the tally

  tally_of : s.tally.of ≡ parts.counter
  tally_of = s.of ∙ s.board_is.counter

  count_at : (ds : List (DeskState F)) → length (workers_at ds) ≡ length ds
  count_at [] = refl
  count_at (d ∷ ds) = let rest = count_at ds in omega arith

  workers_are : s.tally.workers ≡ workers_at desks
  workers_are = s.workers ∙ ap (λ ws. ws ++ workers_at desks) (none s.before.workers few)
    where
      none : (ws : List Worker) → length ws ≡ 0 → ws ≡ []
      none [] e = refl
      none (w ∷ ws) e = absurd (omega arith)

      few : length s.before.workers ≡ 0
      few =
          let all : length s.tally.workers ≡ length s.before.workers + length (workers_at desks) = ap length s.workers ∙ length-append s.before.workers (workers_at desks) in
          let some = count_at desks in
          let most_of = s.gathered.count in
          omega (arith, all, some, most_of, count)

  has_all : HasAll s.tally
  has_all = ap length workers_are ∙ count_at desks ∙ count ∙ ap (λ (c : CounterId). c.workers) (sym tally_of)

  knows : KnowsClaims s.tally
  knows = s.knows has_all

  -- ---- whose calls they are

  own : (number : ℕ) → number < parts.counter.workers → All (IsOwnCall parts.kind parts.future.terms work false calls) (calls_by number s.journal)
  own number below =
      let one : times_numbered number (workers_at desks) ≡ 1 =
      ap (times_numbered number) (sym workers_are) ∙ knows.numbers number (subst (λ (c : CounterId). number < c.workers) (sym tally_of) below)
      in
      own_all value called parts calls s.journal number desks are_in (omega (arith, one))

  reports : All (IsBoardCall parts.future.terms false work n parts.sizes s.before.pieces) (calls_by (reporter parts) s.journal)
  reports =
      let P = IsBoardCall parts.future.terms false work n parts.sizes s.before.pieces in
      let at_known : All P (calls_by (reporter parts) known) =
      subst (λ j. All P (calls_by (reporter parts) j)) s.board_knows (subst (λ k. All P (calls_by k s.board.known)) s.board_is.number s.board_is.reports)
      in
      all_left P (calls_by (reporter parts) s.journal) (calls_by (reporter parts) begins.later)
      (subst (All P) (ap (calls_by (reporter parts)) begins.is ∙ calls_by-append (reporter parts) s.journal begins.later) at_known)

  makers_are : parts.future.terms.makers ≡ parts.counter.workers + 1
  makers_are = fits.makers ∙ plain_passes parts.kind parts.counter.workers has.plain

  allowed : All (IsAllowed (parts.counter.workers + 1)) s.journal
  allowed = subst (λ makers. All (IsAllowed makers) s.journal) (ap (λ (t : Terms). t.makers) terms_are ∙ makers_are) s.met.lawful.allowed

  ours : All (IsOurs parts.kind parts.future.terms work n parts.sizes s.before.pieces parts.counter.workers calls) s.journal
  ours = all_ours parts.kind parts.future.terms work n parts.sizes s.before.pieces parts.counter.workers calls s.journal reports own allowed

  open_yet : (flags_at s.journal).finished ≡ false
  open_yet = unfinished parts.kind parts.future.terms work n parts.sizes s.before.pieces parts.counter.workers calls s.journal ours

  none_strange : list_any (is_strange (reporter parts)) s.journal ≡ false
  none_strange = none_is_strange parts.kind parts.future.terms work n parts.sizes s.before.pieces parts.counter.workers calls s.journal own allowed

  -- where nothing was canceled, no end stands
  going : (flags_at s.journal).canceled ≡ false → shows_end (flags_at s.journal) ≡ true → ⊥
  going not_canceled ended = both (flags_at s.journal).canceled (flags_at s.journal).finished not_canceled open_yet ended
    where
      both : (a b : Bool) → a ≡ false → b ≡ false → (a || b) ≡ true → ⊥
      both a b h k e = false≢true (sym (none a b h k) ∙ e)
        where
          none : (a b : Bool) → a ≡ false → b ≡ false → (a || b) ≡ false
          none a b h k = grind arith

  claimed : (flags_at s.journal).canceled ≡ false → IsClaimed s.tally
  claimed not_canceled = record {
    all = has_all;
    saw = (
      first.seat.worker,
      subst (λ ws. Contains ws first.seat.worker) (sym workers_are) (0, omega arith, refl),
      subst (λ (c : CounterId). c.n ≤ first.seat.worker.seen) (sym tally_of)
          (elim over [
            | inl past ↦ past
            | inr ended ↦ absurd (going not_canceled ((All-head (IsIn value called parts calls s.journal) first others are_in).ends ended))
          ]),
    );
  }

  left : AreLeft value called parts s.journal desks
  left = are_left value called parts terms calls s.journal desks s.met.lawful (none_strange_reports (reporter parts) s.journal none_strange) are_in

  -- ---- the answer whether the work is at its end

  reported : (flags_at s.journal).canceled ≡ false → AreReported s.tally.of.n (reporter parts) (gave s.tally.of.n (claims_of s.tally.workers)) s.journal
  reported not_canceled =
      subst (λ (c : CounterId). AreReported c.n (reporter parts) (gave c.n (claims_of s.tally.workers)) s.journal) (sym tally_of)
      (subst (λ ws. AreReported n (reporter parts) (gave n (claims_of ws)) s.journal) (sym workers_are)
      (all_reported value called parts calls s.journal desks are_in (going not_canceled) none_strange))

  among : All (Contains (gathered_ranges s.tally)) (ranges_by (reporter parts) s.journal)
  among =
      subst (λ (c : CounterId). All (Contains (map (clipped c.n) s.tally.pieces)) (ranges_by (reporter parts) s.journal)) (sym tally_of)
      (subst (λ pieces. All (Contains (map (clipped n) pieces)) (ranges_by (reporter parts) s.journal)) (sym s.pieces)
      (reports_gathered value parts s.before.pieces (calls_by (reporter parts) s.journal) reports))

  -- the finish is no report
  same_ranges : (number : ℕ) → ranges_by number known ≡ ranges_by number s.journal
  same_ranges number = elim either [
    | inl same ↦ ap (ranges_by number) same.0
    | inr more ↦
        ap (ranges_by number) more ∙ ranges_by-append number s.journal (logged ∷ [])
        ∙ ap (λ ranges. ranges_by number s.journal ++ ranges) (none_reported number logged [] refl refl)
        ∙ append-nil (ranges_by number s.journal)
  ]

  -- it is, where nothing was canceled
  never_false : (flags_at s.journal).canceled ≡ false → ended ≡ true
  never_false not_canceled =
      let there = ends s.tally (reporter parts) s.journal (subst (λ c. IsGathered c s.tally) (sym tally_of) s.gathered) knows (claimed not_canceled) (reported not_canceled) among in
      s.ended_is.1 (record {
        end = there.end;
        reported = subst (λ ranges. All (λ claim. Contains ranges (clipped s.tally.of.n claim)) s.tally.pieces) (sym (same_ranges (reporter parts))) there.reported;
      })

  brought_in : AreBroughtIn work parts.sizes parts.kind parts.future.terms s.journal parts.counter s.tally calls
  brought_in = record {
    plain = has.plain;
    indexes = fits.indexes;
    makers = fits.makers;
    opened = begins_further opening first.pass.known s.journal first_is.seated.opened (All-head (IsIn value called parts calls s.journal) first others are_in).begins;
    own = own;
    reports = subst (λ pieces. All (IsBoardCall parts.future.terms false work n parts.sizes pieces) (calls_by (reporter parts) s.journal)) (sym s.pieces) reports;
    of = tally_of;
    gathered = s.gathered;
    knows = knows;
    all = has_all;
    left = left.left;
    uncovered = left.uncovered;
    most = λ index.
        subst (λ ws. times_called calls index ≤ times_covered (map (clipped n) (claims_of ws)) index) (sym workers_are)
        (subst (λ k. k ≤ times_covered (map (clipped n) (claims_of (workers_at desks))) index) (sym (calls_are index)) (most value called parts index desks are_desks));
    least = λ index.
        subst (λ ws. times_covered (map (clipped n) (gave n (claims_of ws))) index ≤ times_called calls index + times_covered (map (clipped n) left.left) index) (sym workers_are)
        (subst (λ k. times_covered (map (clipped n) (gave n (claims_of (workers_at desks)))) index ≤ k + times_covered (map (clipped n) left.left) index) (sym (calls_are index)) (left.least index));
    tiled = λ not_canceled. subst (λ ranges. Tiles ranges n) (same_ranges (reporter parts)) (s.tiles (never_false not_canceled));
  }

  pub worked_out : IsWorkedOut work parts.sizes parts.kind parts.future.terms known calls
  worked_out = elim either [
    | inl same ↦ absurd (false≢true (sym open_yet ∙ same.1))
    | inr more ↦
        subst (λ j. IsWorkedOut work parts.sizes parts.kind parts.future.terms j calls) (sym more)
        (desks_are_worked_out work parts.sizes parts.kind parts.future.terms s.journal parts.counter s.tally calls logged brought_in refl
        (subst (λ t. IsJournal t (s.journal ++ logged ∷ [])) terms_are (subst (IsJournal terms) more s.lawful)))
  ]

  -- the work is at its end, or Canceled stands
  pub ended_or : (canceled : Bool) → canceled ≡ (flags_at known).canceled → (ended ≡ false) → canceled ≡ false → ⊥
  ended_or canceled is not_ended not_canceled = false≢true (sym not_ended ∙ never_false before)
    where
      later : (flags_at s.journal).canceled ≡ true → (flags_at known).canceled ≡ true
      later e = elim either [
        | inl same ↦ ap (λ (j : Journal). (flags_at j).canceled) same.0 ∙ e
        | inr more ↦ ap (λ (j : Journal). (flags_at j).canceled) more ∙ canceled_stays before_finish logged e
      ]

      before : (flags_at s.journal).canceled ≡ false
      before =
          elim (flags_at s.journal).canceled as (λ b. (flags_at s.journal).canceled ≡ b → b ≡ false) [
            | true ↦ λ e. absurd (false≢true (sym (sym is ∙ not_canceled) ∙ later e))
            | false ↦ λ e. refl
          ] refl

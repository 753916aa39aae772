-- A report that the store took.
use Rattle.std.proofs.Common.{◌≡◌, ℕ, zero, suc, ◌+◌, ◌<◌, Bool, true, false, ◌||◌, ◌&&◌, nat_lt, nat_le, nat_eq, List, [], ◌∷◌, ◌++◌, length, Option, None, Some, unwrap_or, if◌then◌else◌, Result, Ok, Err, IfOk, IsOk, All, IsTrue, inl, inr, refl, ap, sym, ◌∙◌, subst, arith}
use Rattle.std.specs.Option.{option_or}
use Rattle.std.specs.List.{list_any, find, range_with_len}
use Rattle.std.proofs.lemmas.Bool.{cases_lt}
use Rattle.std.proofs.lemmas.Bool.Decides.{nat_tests}
use Rattle.std.proofs.lemmas.List.{map-append}
use Rattle.std.proofs.lemmas.List.Elements.{All-nil, All-cons, All-append, All-head, All-tail}
use Rattle.std.proofs.lemmas.List.Folds.{list_any-append}
use Rattle.qtc_events.specs.Flags.{Standing}
use Rattle.qtc_events.specs.Calls.{has_effect}
use Rattle.qtc_events.specs.Journal.{flags_after_all, posts_of_entry}
use Rattle.qtc_events.specs.declared.calls.Call.{Call}
use Rattle.qtc_events.specs.declared.calls.Call.TheVariants.{Report}
use Rattle.qtc_events.specs.declared.entries.Entry.{Entry}
use Rattle.qtc_events.specs.declared.entries.Reached.{Reached}
use Rattle.qtc_events.specs.declared.thresholds.Thresholds.{Thresholds}
use Rattle.qtc_store.specs.Batches.{covers, is_covered, least_covered, placed, end_of, IsWhole}
use Rattle.qtc_base.specs.Limits.{most_end}
use Rattle.qtc_store.specs.Stored.{Stored, refusal, refusal_of, count_of, with_batch, NothingRefuses}
use Rattle.qtc_store.specs.Adds.{store_of}
use Rattle.qtc_store.specs.declared.batch.Added.{Added}
use Rattle.qtc_store.specs.declared.batch.AddFault.{AddFault}
use Rattle.qtc_store.specs.declared.batch.AddFault.TheVariants.{Taken as FaultTaken, PastEnd as FaultPastEnd, Memory}
use Rattle.qtc_store.specs.declared.batch.Batch.{Batch}
use Rattle.qtc_future.specs.Booked.{Booked, HasRoom}
use Rattle.qtc_future.specs.Future.{Future, Logged, batch_of, batches_in, reports_of, results_of, flags_of, failure_in}
use Rattle.qtc_future.specs.Steps.{Stepped, Accepted, Taken, PastEnd, accepted, stays, told_by, with_report, judged, logged_by, reached_by, report_of, with_call}
use Rattle.qtc_future.specs.Legal.{IsAcceptable, IsEffective, AreEffective}
use Rattle.qtc_future.specs.Core.{values_in, values_read, call_read, calls_read, seen, IsKept}
use Rattle.qtc_future.specs.Answering.{IsStep, IsTry, is_idle, lacking_at, refused_by}
use Rattle.qtc_future.specs.declared.replies.Failure.{Failure}
use Rattle.qtc_future.specs.declared.replies.Reply.{Reply}
use Rattle.qtc_base.specs.declared.memory.NoMemory.{NoMemory}
use Rattle.qtc_future.proofs.Appending.{fold-push}
use Rattle.qtc_future.proofs.Orders.{any-in_order}
use Rattle.qtc_future.proofs.OneMore.{entries-read, reports-push, failure-push, kept_with}
use Rattle.qtc_future.proofs.Plain.{carrying}

-- ---- each accepted batch covers something
abbrev pub Covers : {V : Type 0} → Batch V → Type 0
Covers batch = 0 < batch.total

pub call_covers : {V : Type 0} (s : Standing) (call : Call) (values : List V) → IsTrue (has_effect s call) → All Covers (batch_of call values)
call_covers s (Report begin kept total) values h =
    All-cons Covers _ [] (let some : 0 < total = grind (arith, nat_tests) in some) (All-nil Covers)
call_covers s _ values h = All-nil Covers

pub reports_cover : {V : Type 0} (future : Future V) (calls : List (Logged V)) → AreEffective future calls → All Covers (reports_of calls)
reports_cover future [] h = All-nil Covers
reports_cover future (logged ∷ calls) h =
    All-append Covers (batches_in logged) (reports_of calls)
    (call_covers (flags_of future) logged.entry.call logged.values h.0.effect)
    (reports_cover (with_call future logged) calls h.1)

-- ---- where the batch begins nothing begins yet
abbrev begins_at : {V : Type 0} → ℕ → Batch V → Bool
begins_at begin batch = nat_eq batch.begin begin

head_free : (p : ℕ → Bool) (begin total : ℕ) → 0 < total → find p (range_with_len begin total) ≡ None → p begin ≡ false
head_free p begin zero some h = absurd (omega arith)
head_free p begin (suc n) some h = grind arith

or_left : (a b : Bool) → (a || b) ≡ false → a ≡ false
or_left a b h = grind arith

or_right : (a b : Bool) → (a || b) ≡ false → b ≡ false
or_right a b h = grind arith

begins_not : (place begin total : ℕ) → 0 < total → (nat_le begin place && nat_lt place (begin + total)) ≡ false → nat_eq begin place ≡ false
begins_not place begin total some h = grind (arith, nat_tests)

none_begins : {V : Type 0} (place : ℕ) (batches : List (Batch V)) → All Covers batches → list_any (covers place) batches ≡ false → list_any (begins_at place) batches ≡ false
none_begins place [] some h = refl
none_begins place (batch ∷ batches) some h =
    let own = begins_not place batch.begin batch.total (All-head Covers batch batches some) (or_left (covers place batch) _ h) in
    let rest = none_begins place batches (All-tail Covers batch batches some) (or_right (covers place batch) _ h) in
    rw (own, rest) refl

-- ---- finding a batch by its begin
pub find-new : {V : Type 0} (p : Batch V → Bool) (batches : List (Batch V)) (b : Batch V) → list_any p batches ≡ false → p b ≡ true → find p (placed batches b) ≡ Some b
find-new p [] b none is = rw is refl
find-new p (first ∷ batches) b none is =
    let here = or_left (p first) _ none in
    let rest = find-new p batches b (or_right (p first) _ none) is in
    elim (cases_lt b.begin first.begin) [
      | inl before ↦ grind (arith, nat_tests)
      | inr after ↦ grind (arith, nat_tests)
    ]

pub find-other : {V : Type 0} (p : Batch V → Bool) (batches : List (Batch V)) (b : Batch V) → p b ≡ false → find p (placed batches b) ≡ find p batches
find-other p [] b not = rw not refl
find-other p (first ∷ batches) b not =
    let rest = find-other p batches b not in
    elim (cases_lt b.begin first.begin) [
      | inl before ↦ grind (arith, nat_tests)
      | inr after ↦ grind (arith, nat_tests)
    ]

eq_swap : (a b : ℕ) → nat_eq a b ≡ false → nat_eq b a ≡ false
eq_swap a b h = grind (arith, nat_tests)

values_same : {V : Type 0} (batches : List (Batch V)) (b : Batch V) (call : Call) → list_any (begins_at b.begin) (batch_of call (values_read batches call)) ≡ false → values_read (placed batches b) call ≡ values_read batches call
values_same batches b (Report begin kept total) h =
    ap values_in (find-other (begins_at begin) batches b (eq_swap begin b.begin (or_left _ _ h)))
values_same batches b _ h = refl

read_same : {V : Type 0} (batches : List (Batch V)) (b : Batch V) (failure : Option Failure) (journal : List Entry) → list_any (begins_at b.begin) (reports_of (calls_read batches failure journal)) ≡ false → calls_read (placed batches b) failure journal ≡ calls_read batches failure journal
read_same batches b failure [] h = refl
read_same batches b failure (entry ∷ journal) h =
    let parts = sym (list_any-append (begins_at b.begin) (batches_in (call_read batches failure entry)) (reports_of (calls_read batches failure journal))) ∙ h in
    ap (λ vs. record { entry = entry; values = vs; item = (call_read batches failure entry).item } ∷ calls_read (placed batches b) failure journal) (values_same batches b entry.call (or_left _ _ parts))
    ∙ ap (λ calls. call_read batches failure entry ∷ calls) (read_same batches b failure journal (or_right _ _ parts))

-- nothing in the journal begins where a batch does that the store takes
begin_free : {V : Type 0} (thresholds : Thresholds) (booked : Booked) (store : Stored V) (failure : Option Failure) (b : Batch V) → IsKept (seen thresholds booked store failure) booked store failure → 0 < b.total → least_covered store.batches b.begin b.total ≡ None → list_any (begins_at b.begin) (reports_of (calls_read store.batches failure booked.journal)) ≡ false
begin_free {V = V} thresholds booked store failure b kept some free =
    let future = seen thresholds booked store failure in
    let reports = reports_of future.calls in
    let going : is_covered store.batches b.begin ≡ false = head_free (is_covered store.batches) b.begin b.total some free in
    let same : list_any (covers b.begin) reports ≡ list_any (covers b.begin) store.batches = sym (any-in_order (covers b.begin) reports) ∙ ap (λ (s : Stored V). list_any (covers b.begin) s.batches) (sym kept.results) in
    none_begins b.begin reports (reports_cover (record future { calls = [] }) future.calls kept.legal) (same ∙ going)

own_begins : (place : ℕ) → nat_eq place place ≡ true
own_begins place = grind (arith, nat_tests)

-- the batch is found by its begin
own_found : {V : Type 0} (thresholds : Thresholds) (booked : Booked) (store : Stored V) (failure : Option Failure) (b : Batch V) → IsKept (seen thresholds booked store failure) booked store failure → 0 < b.total → least_covered store.batches b.begin b.total ≡ None → find (begins_at b.begin) (placed store.batches b) ≡ Some b
own_found {V = V} thresholds booked store failure b kept some free =
    let reports = reports_of (calls_read store.batches failure booked.journal) in
    let none = begin_free thresholds booked store failure b kept some free in
    let same : list_any (begins_at b.begin) store.batches ≡ list_any (begins_at b.begin) reports = ap (λ (s : Stored V). list_any (begins_at b.begin) s.batches) kept.results ∙ any-in_order (begins_at b.begin) reports in
    find-new (begins_at b.begin) store.batches b (same ∙ none) (own_begins b.begin)

abbrev pub report_entry : {V : Type 0} → ℕ → Batch V → Reached → Entry
report_entry caller b reached = record { caller = caller; call = report_of b; reached = reached }

abbrev pub store_with : {V : Type 0} → Stored V → Batch V → Stored V
store_with store b = record store { batches = placed store.batches b }

pub seen_report : {V : Type 0} (thresholds : Thresholds) (booked booked' : Booked) (store : Stored V) (failure : Option Failure) (caller : ℕ) (b : Batch V) (reached : Reached) → IsKept (seen thresholds booked store failure) booked store failure → 0 < b.total → least_covered store.batches b.begin b.total ≡ None → booked'.journal ≡ booked.journal ++ report_entry caller b reached ∷ [] → seen thresholds booked' (store_with store b) failure ≡ with_call (seen thresholds booked store failure) (carrying (report_entry caller b reached) b.values [])
seen_report thresholds booked booked' store failure caller b reached kept some free grown =
    let entry = report_entry caller b reached in
    let after = placed store.batches b in
    ap (λ calls. record { filter = store.filter; thresholds = thresholds; calls = calls })
    (ap (calls_read after failure) grown
    ∙ map-append (call_read after failure) booked.journal (entry ∷ [])
    ∙ ap (λ calls. calls ++ call_read after failure entry ∷ []) (read_same store.batches b failure booked.journal (begin_free thresholds booked store failure b kept some free))
    ∙ ap (λ o. calls_read store.batches failure booked.journal ++ carrying entry (values_in o) [] ∷ []) (own_found thresholds booked store failure b kept some free))

-- ---- what the store says of the batch
none_taken : (least : Option ℕ) (end : ℕ) → refusal least end ≡ None → least ≡ None
none_taken None end e = refl
none_taken (Some index) end e = absurd (cc)

pub unrefused_free : {V : Type 0} (batches : List (Batch V)) (begin total : ℕ) → refusal_of batches begin total ≡ None → least_covered batches begin total ≡ None
unrefused_free batches begin total e = none_taken (least_covered batches begin total) (begin + total) e

judged_by : {V : Type 0} (future : Future V) (caller : ℕ) (b : Batch V) (least : Option ℕ) → refusal least (end_of b) ≡ None → judged future caller b least ≡ accepted future caller b
judged_by future caller b (Some index) e = absurd (cc)
judged_by future caller b None e = grind (arith, nat_tests)

pub judged_accepted : {V : Type 0} (future : Future V) (caller : ℕ) (b : Batch V) → NothingRefuses (results_of future) b.begin b.total → judged future caller b (least_covered (results_of future).batches b.begin b.total) ≡ accepted future caller b
judged_accepted future caller b e = judged_by future caller b (least_covered (results_of future).batches b.begin b.total) e

report_has_effect : (s : Standing) (begin kept total : ℕ) → (s.canceled || s.finished) ≡ false → 0 < total → IsTrue (has_effect s (Report begin kept total))
report_has_effect s begin kept total going some = grind (arith, nat_tests)

or_nothing : (a : Option Failure) → option_or a None ≡ a
or_nothing None = refl
or_nothing (Some x) = refl

pub results_with : {V : Type 0} (thresholds : Thresholds) (booked : Booked) (store : Stored V) (failure : Option Failure) (logged : Logged V) (b : Batch V) → IsKept (seen thresholds booked store failure) booked store failure → batches_in logged ≡ b ∷ [] → store_with store b ≡ results_of (with_call (seen thresholds booked store failure) logged)
results_with {V = V} thresholds booked store failure logged b kept one =
    let calls = calls_read store.batches failure booked.journal in
    ap (λ (s : Stored V). record { filter = store.filter; batches = placed s.batches b }) kept.results
    ∙ ap (λ (bs : List (Batch V)). record { filter = store.filter; batches = bs }) (sym (fold-push placed [] (reports_of calls) b))
    ∙ ap (λ (bs : List (Batch V)). store_of store.filter bs) (ap (λ bs. reports_of calls ++ bs) (sym one) ∙ sym (reports-push calls logged))

pub kept_report : {V : Type 0} (thresholds : Thresholds) (booked booked' : Booked) (store : Stored V) (failure : Option Failure) (caller : ℕ) (b : Batch V) (reached : Reached) (old_count new_count : ℕ) → IsKept (seen thresholds booked store failure) booked store failure → (let s = flags_after_all booked.journal in (s.canceled || s.finished) ≡ false) → 0 < b.total → NothingRefuses store b.begin b.total → IsWhole store.filter b → reached ≡ reached_by (seen thresholds booked store failure) (report_of b) → old_count ≡ count_of store → new_count ≡ count_of (store_with store b) → booked'.journal ≡ booked.journal ++ report_entry caller b reached ∷ [] → booked'.events ≡ booked.events ++ posts_of_entry store.filter (report_entry caller b reached) old_count new_count → HasRoom booked' → IsKept (seen thresholds booked' (store_with store b) failure) booked' (store_with store b) failure
kept_report {V = V} thresholds booked booked' store failure caller b reached old_count new_count kept going some unrefused whole reaches old_is new_is grown told room =
    let future = seen thresholds booked store failure in
    let entry = report_entry caller b reached in
    let logged : Logged V = carrying entry b.values [] in
    let free = unrefused_free store.batches b.begin b.total unrefused in
    let flags : flags_of future ≡ flags_after_all booked.journal = ap flags_after_all (entries-read store.batches failure booked.journal) in
    let failed : failure_in (future.calls ++ logged ∷ []) ≡ failure_in future.calls = failure-push future.calls logged ∙ or_nothing (failure_in future.calls) in
    let acceptable : IsAcceptable (results_of future) b = subst (λ (s : Stored V). IsAcceptable s b) kept.results (record { unrefused = unrefused; whole = whole }) in
    let effective : IsEffective future logged = record {
      effect = subst (λ (s : Standing). IsTrue (has_effect s (report_of b))) (sym flags) (report_has_effect (flags_after_all booked.journal) b.begin (length b.values) b.total going some);
      reached = reaches;
      batch = All-cons (IsAcceptable (results_of future)) b [] acceptable (All-nil (IsAcceptable (results_of future)));
      carries = (refl, refl);
    } in
    let results : store_with store b ≡ results_of (with_call future logged) = results_with thresholds booked store failure logged b kept refl in
    let after : results_of (with_call future logged) ≡ store_of store.filter (reports_of future.calls ++ b ∷ []) = ap (λ (bs : List (Batch V)). store_of store.filter bs) (reports-push future.calls logged) in
    let posts = ap (λ n. posts_of_entry store.filter entry n new_count) (old_is ∙ ap count_of kept.results) ∙ ap (λ n. posts_of_entry store.filter entry (count_of (store_of store.filter (reports_of future.calls))) n) (new_is ∙ ap count_of (results ∙ after)) in
    subst (λ (f : Future V). IsKept f booked' (store_with store b) failure) (sym (seen_report thresholds booked booked' store failure caller b reached kept some free grown))
    (kept_with future booked booked' store (store_with store b) failure failure logged kept effective results (kept.failure_kept ∙ sym failed) (told ∙ ap (λ es. booked.events ++ es) posts) room)

-- ---- the step
pub with_batch_some : {V : Type 0} (store : Stored V) (b : Batch V) → 0 < b.total → with_batch store b ≡ store_with store b
with_batch_some store b some = let not : nat_eq b.total 0 ≡ false = grind (arith, nat_tests) in rw not refl

with_report_some : {V : Type 0} (future : Future V) (caller : ℕ) (b : Batch V) → 0 < b.total → with_report future caller b ≡ with_call future (logged_by future caller (report_of b) b.values [])
with_report_some future caller b some = let not : nat_eq b.total 0 ≡ false = grind (arith, nat_tests) in rw not refl

pub report_step : {V : Type 0} (future new : Future V) (caller : ℕ) (b : Batch V) (added : Added) (reached : Reached) → NothingRefuses (results_of future) b.begin b.total → 0 < b.total → new ≡ with_call future (logged_by future caller (report_of b) b.values []) → reached ≡ reached_by future (report_of b) → added.begin ≡ b.begin → added.old_count ≡ count_of (results_of future) → added.new_count ≡ count_of (results_of new) → IsStep (judged future caller b (least_covered (results_of future).batches b.begin b.total)) new (Accepted added reached)
report_step {V = V} future new caller b added reached unrefused some same reaches begin_is old_is new_is =
    let after : new ≡ with_report future caller b = same ∙ sym (with_report_some future caller b some) in
    let count = new_is ∙ ap (λ (f : Future V). count_of (results_of f)) after in
    subst (λ (s : Stepped V). IsStep s new (Accepted added reached)) (sym (judged_accepted future caller b unrefused)) (record {
      future = after;
      answer = λ i. Accepted (record { begin = begin_is i; old_count = old_is i; new_count = count i }) (reaches i);
    })

refused_case : {V : Type 0} (future new : Future V) (caller : ℕ) (b : Batch V) (least : Option ℕ) (fault : AddFault) → ((i : ℕ) → fault ≡ FaultTaken i → least ≡ Some i) → (fault ≡ FaultPastEnd → (least ≡ None) × (most_end < end_of b)) → new ≡ future → IfOk (refused_by fault) (λ reply. IsStep (judged future caller b least) new (told_by reply))
refused_case future new caller b least (FaultTaken i) taken past same =
    subst (λ o. IsStep (judged future caller b o) new (Taken i)) (sym (taken i refl)) (record { future = same; answer = refl })
refused_case future new caller b least FaultPastEnd taken past same =
    let end : nat_lt most_end (end_of b) ≡ true = let h = (past refl).1 in grind (arith, nat_tests) in
    subst (λ o. IsStep (judged future caller b o) new PastEnd) (sym (past refl).0) (rw end (record { future = same; answer = refl }))
refused_case future new caller b least Memory taken past same = tt

pub refused_step : {V : Type 0} (future new : Future V) (caller : ℕ) (b : Batch V) (least : Option ℕ) (fault : AddFault) (result : Result Reply NoMemory) → result ≡ refused_by fault → ((i : ℕ) → fault ≡ FaultTaken i → least ≡ Some i) → (fault ≡ FaultPastEnd → (least ≡ None) × (most_end < end_of b)) → new ≡ future → IfOk result (λ reply. IsStep (judged future caller b least) new (told_by reply))
refused_step future new caller b least fault result is taken past same =
    subst (λ r. IfOk r (λ reply. IsStep (judged future caller b least) new (told_by reply))) (sym is) (refused_case future new caller b least fault taken past same)

-- ---- a refusal comes with memory or without

past_chosen : {V : Type 0} (future : Future V) (caller : ℕ) (b : Batch V) (past : Bool) → IsTrue (is_idle (if past then (stays future PastEnd) else (accepted future caller b)).told) → past ≡ true
past_chosen future caller b true idle = refl
past_chosen future caller b false idle = absurd (cc)

sure_case : {V : Type 0} (future : Future V) (caller : ℕ) (b : Batch V) (least : Option ℕ) (fault : AddFault) → ((i : ℕ) → least ≡ Some i → fault ≡ FaultTaken i) → (least ≡ None → most_end < end_of b → fault ≡ FaultPastEnd)
    → IsTrue (is_idle (judged future caller b least).told) → IsOk (refused_by fault)
sure_case future caller b (Some i) fault taken past idle = subst (λ f. IsOk (refused_by f)) (sym (taken i refl)) refl
sure_case future caller b None fault taken past idle =
    let is = past_chosen future caller b (nat_lt most_end (end_of b)) idle in
    let end : most_end < end_of b = grind (arith, nat_tests) in
    subst (λ f. IsOk (refused_by f)) (sym (past refl end)) refl

abbrev fault_of : {A : Type 0} → AddFault → Result A AddFault → AddFault
fault_of other (Ok value) = other
fault_of other (Err fault) = fault

-- of a batch that the store was asked to take
pub refused_sure : {V A : Type 0} (future : Future V) (caller : ℕ) (b : Batch V) (least : Option ℕ) (fault : AddFault) (asked : Result A AddFault) (result : Result Reply NoMemory) → asked ≡ Err fault → result ≡ refused_by fault
    → ((i : ℕ) → least ≡ Some i → asked ≡ Err (FaultTaken i)) → (least ≡ None → most_end < end_of b → asked ≡ Err FaultPastEnd)
    → IsTrue (is_idle (judged future caller b least).told) → IsOk result
refused_sure future caller b least fault asked result asked_is is taken past idle =
    let fault_is : fault ≡ fault_of fault asked = sym (ap (fault_of fault) asked_is) in
    subst IsOk (sym is)
    (sure_case future caller b least fault (λ i e. fault_is ∙ ap (fault_of fault) (taken i e)) (λ e end. fault_is ∙ ap (fault_of fault) (past e end)) idle)

lacking_case : {V : Type 0} (future : Future V) (caller : ℕ) (b : Batch V) (least : Option ℕ) → IsTry future (judged future caller b least) told_by future (refused_by (unwrap_or (refusal least (end_of b)) Memory))
lacking_case future caller b (Some i) = record { ok = record { future = refl; answer = refl }; err = tt; sure = λ idle. refl }
lacking_case future caller b None = by (nat_lt most_end (end_of b))
  where
    by : (past : Bool) → IsTry future (if past then (stays future PastEnd) else (accepted future caller b)) told_by future (refused_by (unwrap_or (if past then (Some FaultPastEnd) else None) Memory))
    by true = record { ok = record { future = refl; answer = refl }; err = tt; sure = λ idle. refl }
    by false = record { ok = tt; err = refl; sure = λ idle. absurd (cc) }

-- of a batch that the store wasn't asked to take
pub lacking_try : {V : Type 0} (future new : Future V) (caller : ℕ) (b : Batch V) (result : Result Reply NoMemory) → result ≡ lacking_at (results_of future) b.begin b.total → new ≡ future
    → IsTry future (judged future caller b (least_covered (results_of future).batches b.begin b.total)) told_by new result
lacking_try future new caller b result is same =
    let least = least_covered (results_of future).batches b.begin b.total in
    subst (λ n. IsTry future (judged future caller b least) told_by n result) (sym same)
    (subst (IsTry future (judged future caller b least) told_by future) (sym is) (lacking_case future caller b least))

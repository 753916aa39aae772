-- A call that carries nothing.
use Rattle.std.proofs.Common.{◌≡◌, ℕ, Bool, true, false, List, [], ◌∷◌, ◌++◌, Option, None, Some, All, IsTrue, refl, ap, sym, ◌∙◌, subst, append-nil, option_to_list, if◌then◌else◌, arith}
use Rattle.std.specs.Option.{option_or}
use Rattle.std.proofs.lemmas.List.{map-append}
use Rattle.std.proofs.lemmas.List.Elements.{All-nil}
use Rattle.std.proofs.lemmas.Bool.Decides.{nat_tests}
use Rattle.qtc_events.specs.Flags.{Standing}
use Rattle.qtc_events.specs.Calls.{row, has_effect, acts_as, posts_of_acting, add_accounted, reaches, reached_of}
use Rattle.qtc_events.specs.Journal.{flags_after_all, posts_of_entry}
use Rattle.qtc_events.specs.declared.calls.Call.{Call}
use Rattle.qtc_events.specs.declared.calls.Call.TheVariants.{Report, Fail}
use Rattle.qtc_events.specs.declared.entries.Entry.{Entry}
use Rattle.qtc_events.specs.declared.events.Event.{Event}
use Rattle.qtc_events.specs.declared.entries.Reached.TheVariants.{Nothing}
use Rattle.qtc_events.specs.declared.thresholds.Thresholds.{Thresholds}
use Rattle.qtc_store.specs.Stored.{Stored}
use Rattle.qtc_store.specs.Adds.{store_of}
use Rattle.qtc_store.specs.declared.batch.Batch.{Batch}
use Rattle.qtc_future.specs.Booked.{Booked, HasRoom}
use Rattle.qtc_future.specs.Future.{Future, Logged, batch_of, batches_in, reports_of, results_of, flags_of, accounted_of, failure_of_call, failure_in, posted_by}
use Rattle.qtc_future.specs.Steps.{Effect, by_row, logged_by, reached_by, stays, with_call}
use Rattle.qtc_future.specs.Answering.{IsStep}
use Rattle.qtc_future.specs.Legal.{Carries, IsAcceptable, IsEffective}
use Rattle.qtc_future.specs.Core.{values_read, item_read, call_read, calls_read, seen, IsKept}
use Rattle.qtc_future.specs.Ends.{is_free, is_plain}
use Rattle.qtc_future.specs.declared.replies.Failure.{Failure}
use Rattle.qtc_future.proofs.OneMore.{entries-read, reports-push, failure-push, kept_with}

pub plain_batch : {V : Type 0} (call : Call) (values : List V) → IsTrue (is_plain call) → batch_of call values ≡ []
plain_batch (Report begin kept total) values h = absurd (cc)
plain_batch _ values h = refl

plain_failure : (call : Call) (item : List ℕ) → IsTrue (is_plain call) → failure_of_call call item ≡ None
plain_failure (Fail index) item h = absurd (cc)
plain_failure _ item h = refl

plain_posts : (call : Call) (filter : Bool) (a b c d : ℕ) → IsTrue (is_plain call) → (row call).posts filter a b ≡ (row call).posts filter c d
plain_posts (Report begin kept total) filter a b c d h = absurd (cc)
plain_posts _ filter a b c d h = refl

plain_values : {V : Type 0} (batches : List (Batch V)) (call : Call) → IsTrue (is_plain call) → values_read batches call ≡ []
plain_values batches (Report begin kept total) h = absurd (cc)
plain_values batches _ h = refl

plain_item : (failure : Option Failure) (call : Call) → IsTrue (is_plain call) → item_read failure call ≡ []
plain_item failure (Fail index) h = absurd (cc)
plain_item failure _ h = refl

pub plain_carries : (V : Type 0) (call : Call) → IsTrue (is_plain call) → Carries {V = V} call [] []
plain_carries V (Report begin kept total) h = absurd (cc)
plain_carries V (Fail index) h = absurd (cc)
plain_carries V _ h = (refl, refl)

pub free_plain : (call : Call) → IsTrue (is_free call) → IsTrue (is_plain call)
free_plain call h = grind arith

-- ---- a call that counts for nothing reaches nothing
not_reached : (threshold a : ℕ) → reaches threshold a a ≡ false
not_reached threshold a = grind (arith, nat_tests)

pub nothing_reached : (cancel_after suspend_after : ℕ) (s : Standing) (a b : ℕ) → a ≡ b → reached_of cancel_after suspend_after s a b ≡ Nothing
nothing_reached cancel_after suspend_after s a b e =
    subst (λ x. reached_of cancel_after suspend_after s a x ≡ Nothing) e (let c = not_reached cancel_after a in let d = not_reached suspend_after a in grind arith)

counts_nothing : {V : Type 0} (future : Future V) (call : Call) → (row call).counts ≡ 0 → accounted_of future ≡ add_accounted (accounted_of future) call
counts_nothing future call h = omega (arith, h)

pub idle_reached : {V : Type 0} (future : Future V) (call : Call) → (row call).counts ≡ 0 → Nothing ≡ reached_by future call
idle_reached future call h =
    sym (nothing_reached future.thresholds.cancel_after future.thresholds.suspend_after (flags_of future) _ _ (counts_nothing future call h))

pub free_counts : (call : Call) → IsTrue (is_free call) → (row call).counts ≡ 0
free_counts call h = grind arith

-- ---- what is seen and kept after it
abbrev pub carrying : {V : Type 0} → Entry → List V → List ℕ → Logged V
carrying entry values item = record { entry = entry; values = values; item = item }

read_plain : {V : Type 0} (batches : List (Batch V)) (failure : Option Failure) (journal : List Entry) (entry : Entry) → IsTrue (is_plain entry.call) → calls_read batches failure (journal ++ entry ∷ []) ≡ calls_read batches failure journal ++ carrying entry [] [] ∷ []
read_plain batches failure journal entry h =
    map-append (call_read batches failure) journal (entry ∷ [])
    ∙ ap (λ vs. calls_read batches failure journal ++ carrying entry vs (item_read failure entry.call) ∷ []) (plain_values batches entry.call h)
    ∙ ap (λ is. calls_read batches failure journal ++ carrying entry [] is ∷ []) (plain_item failure entry.call h)

pub seen_plain : {V : Type 0} (thresholds : Thresholds) (booked booked' : Booked) (store : Stored V) (failure : Option Failure) (entry : Entry) → IsTrue (is_plain entry.call) → booked'.journal ≡ booked.journal ++ entry ∷ [] → seen thresholds booked' store failure ≡ with_call (seen thresholds booked store failure) (carrying entry [] [])
seen_plain thresholds booked booked' store failure entry h grown =
    ap (λ calls. record { filter = store.filter; thresholds = thresholds; calls = calls }) (ap (calls_read store.batches failure) grown ∙ read_plain store.batches failure booked.journal entry h)

or_nothing : (a : Option Failure) → option_or a None ≡ a
or_nothing None = refl
or_nothing (Some x) = refl

-- what an entry posts, by what its call does
abbrev own_first : Option Event → Entry → List Event
own_first own entry = option_to_list own ++ option_to_list (posts_of_acting (acts_as entry.reached))

pub kept_plain : {V : Type 0} (thresholds : Thresholds) (booked booked' : Booked) (store : Stored V) (failure : Option Failure) (entry : Entry) → IsKept (seen thresholds booked store failure) booked store failure → IsTrue (is_plain entry.call) → IsTrue (has_effect (flags_after_all booked.journal) entry.call) → entry.reached ≡ reached_by (seen thresholds booked store failure) entry.call → booked'.journal ≡ booked.journal ++ entry ∷ [] → booked'.events ≡ booked.events ++ posts_of_entry store.filter entry 0 0 → HasRoom booked' → IsKept (seen thresholds booked' store failure) booked' store failure
kept_plain {V = V} thresholds booked booked' store failure entry kept h effect reached grown told room =
    let future = seen thresholds booked store failure in
    let logged : Logged V = carrying entry [] [] in
    let none : batches_in logged ≡ [] = plain_batch entry.call [] h in
    let flags : flags_of future ≡ flags_after_all booked.journal = ap flags_after_all (entries-read store.batches failure booked.journal) in
    let reports : reports_of (future.calls ++ logged ∷ []) ≡ reports_of future.calls = reports-push future.calls logged ∙ ap (λ bs. reports_of future.calls ++ bs) none ∙ append-nil (reports_of future.calls) in
    let failed : failure_in (future.calls ++ logged ∷ []) ≡ failure_in future.calls = failure-push future.calls logged ∙ ap (λ f. option_or (failure_in future.calls) f) (plain_failure entry.call [] h) ∙ or_nothing (failure_in future.calls) in
    let effective : IsEffective future logged = record {
      effect = subst (λ (s : Standing). IsTrue (has_effect s entry.call)) (sym flags) effect;
      reached = reached;
      batch = subst (λ bs. All (IsAcceptable (results_of future)) bs) (sym none) (All-nil (IsAcceptable (results_of future)));
      carries = plain_carries V entry.call h;
    } in
    let posts : posts_of_entry store.filter entry 0 0 ≡ posted_by store.filter (reports_of future.calls) logged = ap (λ own. own_first own entry) (plain_posts entry.call store.filter 0 0 _ _ h) in
    subst (λ (f : Future V). IsKept f booked' store failure) (sym (seen_plain thresholds booked booked' store failure entry h grown))
    (kept_with future booked booked' store store failure failure logged kept effective (kept.results ∙ ap (store_of store.filter) (sym reports)) (kept.failure_kept ∙ sym failed) (told ∙ ap (λ es. booked.events ++ es) posts) room)

pub seen_logged : {V : Type 0} (thresholds : Thresholds) (booked booked' : Booked) (store : Stored V) (failure : Option Failure) (entry : Entry) → IsTrue (is_plain entry.call) → entry.reached ≡ reached_by (seen thresholds booked store failure) entry.call → booked'.journal ≡ booked.journal ++ entry ∷ [] → seen thresholds booked' store failure ≡ with_call (seen thresholds booked store failure) (logged_by (seen thresholds booked store failure) entry.caller entry.call [] [])
seen_logged thresholds booked booked' store failure entry h reached grown =
    seen_plain thresholds booked booked' store failure entry h grown
    ∙ ap (λ r. with_call (seen thresholds booked store failure) (carrying (record { caller = entry.caller; call = entry.call; reached = r }) [] [])) reached

-- a row's step, where it has an effect
pub row_taken : {V : Type 0} (future new : Future V) (caller : ℕ) (call : Call) (item : List ℕ) (effect : Bool) → effect ≡ has_effect (flags_of future) call → effect ≡ true → new ≡ with_call future (logged_by future caller call [] item) → IsStep (by_row future caller call item) new (Effect effect)
row_taken future new caller call item effect is taken same =
    subst (λ b. IsStep (if b then record { future = with_call future (logged_by future caller call [] item); told = Effect b } else stays future (Effect b)) new (Effect effect)) (sym (sym is ∙ taken)) (record { future = same; answer = ap Effect taken })

-- A fail, which is the only one: none is in a journal that leaves Canceled unset.
use Rattle.std.proofs.Common.{◌≡◌, ℕ, false, List, [], ◌∷◌, ◌++◌, Option, None, Some, fold, IsTrue, refl, ap, sym, ◌∙◌, subst, append-nil, arith}
use Rattle.std.specs.Option.{option_or}
use Rattle.std.proofs.lemmas.List.{map-append}
use Rattle.std.proofs.lemmas.List.Elements.{All-nil}
use Rattle.qtc_events.specs.Flags.{Standing, new_flags}
use Rattle.qtc_events.specs.Calls.{has_effect, after}
use Rattle.qtc_events.specs.Journal.{after_entry, flags_after_all, posts_of_entry}
use Rattle.qtc_events.specs.declared.calls.Call.{Call}
use Rattle.qtc_events.specs.declared.calls.Call.TheVariants.{Fail}
use Rattle.qtc_events.specs.declared.entries.Entry.{Entry}
use Rattle.qtc_events.specs.declared.entries.Reached.{Reached}
use Rattle.qtc_events.specs.declared.thresholds.Thresholds.{Thresholds}
use Rattle.qtc_store.specs.Stored.{Stored}
use Rattle.qtc_store.specs.Adds.{store_of}
use Rattle.qtc_store.specs.declared.batch.Batch.{Batch}
use Rattle.qtc_future.specs.Booked.{Booked, HasRoom}
use Rattle.qtc_future.specs.Future.{Future, Logged, reports_of, results_of, flags_of, failure_of_call, failure_in}
use Rattle.qtc_future.specs.Steps.{logged_by, reached_by, with_call}
use Rattle.qtc_future.specs.Legal.{IsAcceptable, IsEffective}
use Rattle.qtc_future.specs.Core.{call_read, calls_read, item_read, seen, IsKept}
use Rattle.qtc_future.specs.declared.replies.Failure.{Failure}
use Rattle.qtc_future.proofs.OneMore.{entries-read, reports-push, failure-push, kept_with}
use Rattle.qtc_future.proofs.Plain.{carrying}

not_canceled_before : (s : Standing) (call : Call) (reached : Reached) → (after s call reached).canceled ≡ false → s.canceled ≡ false
not_canceled_before s call reached h = grind arith

fail_cancels : (s : Standing) (index : ℕ) (reached : Reached) → (after s (Fail index) reached).canceled ≡ false → ⊥
fail_cancels s index reached h = grind arith

open_before : (s : Standing) (journal : List Entry) → (fold after_entry s journal).canceled ≡ false → s.canceled ≡ false
open_before s [] h = h
open_before s (entry ∷ journal) h = not_canceled_before s entry.call entry.reached (open_before (after_entry s entry) journal h)

item_same : (failure failure' : Option Failure) (s : Standing) (call : Call) (reached : Reached) → (after s call reached).canceled ≡ false → item_read failure call ≡ item_read failure' call
item_same failure failure' s (Fail index) reached h = absurd (fail_cancels s index reached h)
item_same failure failure' s _ reached h = refl

-- no call of the journal reads the failure
read_same : {V : Type 0} (batches : List (Batch V)) (failure failure' : Option Failure) (s : Standing) (journal : List Entry) → (fold after_entry s journal).canceled ≡ false → calls_read batches failure journal ≡ calls_read batches failure' journal
read_same batches failure failure' s [] h = refl
read_same batches failure failure' s (entry ∷ journal) h =
    let then = open_before (after_entry s entry) journal h in
    ap (λ is. record { entry = entry; values = (call_read batches failure entry).values; item = is } ∷ calls_read batches failure journal) (item_same failure failure' s entry.call entry.reached then)
    ∙ ap (λ calls. call_read batches failure' entry ∷ calls) (read_same batches failure failure' (after_entry s entry) journal h)

call_unfailed : (s : Standing) (call : Call) (item : List ℕ) (reached : Reached) → (after s call reached).canceled ≡ false → failure_of_call call item ≡ None
call_unfailed s (Fail index) item reached h = absurd (fail_cancels s index reached h)
call_unfailed s _ item reached h = refl

unfailed : {V : Type 0} (batches : List (Batch V)) (failure : Option Failure) (s : Standing) (journal : List Entry) → (fold after_entry s journal).canceled ≡ false → failure_in (calls_read batches failure journal) ≡ None
unfailed batches failure s [] h = refl
unfailed batches failure s (entry ∷ journal) h =
    let then = open_before (after_entry s entry) journal h in
    ap (λ f. option_or f (failure_in (calls_read batches failure journal))) (call_unfailed s entry.call (item_read failure entry.call) entry.reached then)
    ∙ unfailed batches failure (after_entry s entry) journal h

pub open_to_fail : (s : Standing) (index : ℕ) → IsTrue (has_effect s (Fail index)) → s.canceled ≡ false
open_to_fail s index h = grind arith

pub seen_failed : {V : Type 0} (thresholds : Thresholds) (booked booked' : Booked) (store : Stored V) (failure : Option Failure) (entry : Entry) (index : ℕ) (item : List ℕ) → entry.call ≡ Fail index → (flags_after_all booked.journal).canceled ≡ false → booked'.journal ≡ booked.journal ++ entry ∷ [] → seen thresholds booked' store (Some (record { index = index; item = item })) ≡ with_call (seen thresholds booked store failure) (carrying entry [] item)
seen_failed thresholds booked booked' store failure entry index item is still grown =
    let failure' : Option Failure = Some (record { index = index; item = item }) in
    let last : call_read store.batches failure' entry ≡ carrying entry [] item =
    ap (λ (c : Call). record { entry = record { caller = entry.caller; call = c; reached = entry.reached }; values = (call_read store.batches failure' (record { caller = entry.caller; call = c; reached = entry.reached })).values; item = item_read failure' c }) is
    ∙ ap (λ (c : Call). carrying (record { caller = entry.caller; call = c; reached = entry.reached }) [] item) (sym is) in
    ap (λ calls. record { filter = store.filter; thresholds = thresholds; calls = calls })
    (ap (calls_read store.batches failure') grown
    ∙ map-append (call_read store.batches failure') booked.journal (entry ∷ [])
    ∙ ap (λ calls. calls ++ call_read store.batches failure' entry ∷ []) (read_same store.batches failure' failure new_flags booked.journal still)
    ∙ ap (λ l. calls_read store.batches failure booked.journal ++ l ∷ []) last)

pub kept_failed : {V : Type 0} (thresholds : Thresholds) (booked booked' : Booked) (store : Stored V) (failure : Option Failure) (caller : ℕ) (reached : Reached) (index : ℕ) (item : List ℕ) → let entry : Entry = record { caller = caller; call = Fail index; reached = reached } in IsKept (seen thresholds booked store failure) booked store failure → IsTrue (has_effect (flags_after_all booked.journal) (Fail index)) → reached ≡ reached_by (seen thresholds booked store failure) (Fail index) → booked'.journal ≡ booked.journal ++ entry ∷ [] → booked'.events ≡ booked.events ++ posts_of_entry store.filter entry 0 0 → HasRoom booked' → IsKept (seen thresholds booked' store (Some (record { index = index; item = item }))) booked' store (Some (record { index = index; item = item }))
kept_failed {V = V} thresholds booked booked' store failure caller reached index item kept effect reaches grown told room =
    let future = seen thresholds booked store failure in
    let failure' : Option Failure = Some (record { index = index; item = item }) in
    let entry : Entry = record { caller = caller; call = Fail index; reached = reached } in
    let logged : Logged V = carrying entry [] item in
    let still = open_to_fail (flags_after_all booked.journal) index effect in
    let flags : flags_of future ≡ flags_after_all booked.journal = ap flags_after_all (entries-read store.batches failure booked.journal) in
    let reports : reports_of (future.calls ++ logged ∷ []) ≡ reports_of future.calls = reports-push future.calls logged ∙ append-nil (reports_of future.calls) in
    let failed : failure_in (future.calls ++ logged ∷ []) ≡ failure' = failure-push future.calls logged ∙ ap (λ f. option_or f failure') (unfailed store.batches failure new_flags booked.journal still) in
    let effective : IsEffective future logged = record {
      effect = subst (λ (s : Standing). IsTrue (has_effect s (Fail index))) (sym flags) effect;
      reached = reaches;
      batch = All-nil (IsAcceptable (results_of future));
      carries = refl;
    } in
    subst (λ (f : Future V). IsKept f booked' store failure') (sym (seen_failed thresholds booked booked' store failure entry index item refl still grown))
    (kept_with future booked booked' store store failure failure' logged kept effective (kept.results ∙ ap (store_of store.filter) (sym reports)) (sym failed) told room)

-- the same with what it reaches
pub seen_failing : {V : Type 0} (thresholds : Thresholds) (booked booked' : Booked) (store : Stored V) (failure : Option Failure) (caller : ℕ) (reached : Reached) (index : ℕ) (item : List ℕ) → let entry : Entry = record { caller = caller; call = Fail index; reached = reached } in IsTrue (has_effect (flags_after_all booked.journal) (Fail index)) → reached ≡ reached_by (seen thresholds booked store failure) (Fail index) → booked'.journal ≡ booked.journal ++ entry ∷ [] → seen thresholds booked' store (Some (record { index = index; item = item })) ≡ with_call (seen thresholds booked store failure) (logged_by (seen thresholds booked store failure) caller (Fail index) [] item)
seen_failing thresholds booked booked' store failure caller reached index item effect reaches grown =
    seen_failed thresholds booked booked' store failure (record { caller = caller; call = Fail index; reached = reached }) index item refl (open_to_fail (flags_after_all booked.journal) index effect) grown
    ∙ ap (λ r. with_call (seen thresholds booked store failure) (carrying (record { caller = caller; call = Fail index; reached = r }) [] item)) reaches

-- A future with one call more.
use Rattle.std.proofs.Common.{◌≡◌, Bool, List, [], ◌∷◌, ◌++◌, Option, None, Some, refl, ap, sym, ◌∙◌, subst, append_assoc, append-nil}
use Rattle.std.specs.Option.{option_or}
use Rattle.std.proofs.lemmas.List.{map-append}
use Rattle.std.proofs.lemmas.Grind.{flat_map-append}
use Rattle.qtc_events.specs.declared.entries.Entry.{Entry}
use Rattle.qtc_store.specs.Stored.{Stored}
use Rattle.qtc_store.specs.declared.batch.Batch.{Batch}
use Rattle.qtc_future.specs.Booked.{Booked, HasRoom}
use Rattle.qtc_future.specs.Future.{Future, Logged, entries_of, batches_in, reports_of, results_of, failure_of_call, failure_in, failure_of, posted_by, posted}
use Rattle.qtc_future.specs.Steps.{with_call}
use Rattle.qtc_future.specs.Legal.{IsEffective, AreEffective}
use Rattle.qtc_future.specs.Core.{calls_read, IsKept}
use Rattle.qtc_future.specs.declared.replies.Failure.{Failure}

pub entries-push : {V : Type 0} (calls : List (Logged V)) (logged : Logged V) → entries_of (calls ++ logged ∷ []) ≡ entries_of calls ++ logged.entry ∷ []
entries-push calls logged = map-append (λ (l : Logged _). l.entry) calls (logged ∷ [])

pub entries-read : {V : Type 0} (batches : List (Batch V)) (failure : Option Failure) (journal : List Entry) → entries_of (calls_read batches failure journal) ≡ journal
entries-read batches failure [] = refl
entries-read batches failure (entry ∷ journal) = ap (λ es. entry ∷ es) (entries-read batches failure journal)

pub reports-push : {V : Type 0} (calls : List (Logged V)) (logged : Logged V) → reports_of (calls ++ logged ∷ []) ≡ reports_of calls ++ batches_in logged
reports-push calls logged =
    flat_map-append batches_in calls (logged ∷ []) ∙ ap (λ bs. reports_of calls ++ bs) (append-nil (batches_in logged))

pub posted-push : {V : Type 0} (filter : Bool) (accepted : List (Batch V)) (calls : List (Logged V)) (logged : Logged V) → posted filter accepted (calls ++ logged ∷ []) ≡ posted filter accepted calls ++ posted_by filter (accepted ++ reports_of calls) logged
posted-push filter accepted [] logged =
    append-nil (posted_by filter accepted logged) ∙ ap (λ bs. posted_by filter bs logged) (sym (append-nil accepted))
posted-push filter accepted (first ∷ calls) logged =
    let own = posted_by filter accepted first in
    let then = accepted ++ batches_in first in
    ap (λ es. own ++ es) (posted-push filter then calls logged)
    ∙ sym (append_assoc own (posted filter then calls) (posted_by filter (then ++ reports_of calls) logged))
    ∙ ap (λ bs. (own ++ posted filter then calls) ++ posted_by filter bs logged) (append_assoc accepted (batches_in first) (reports_of calls))

or_group : (a b c : Option Failure) → option_or a (option_or b c) ≡ option_or (option_or a b) c
or_group None b c = refl
or_group (Some x) b c = refl

or_nothing : (a : Option Failure) → option_or a None ≡ a
or_nothing None = refl
or_nothing (Some x) = refl

pub failure-push : {V : Type 0} (calls : List (Logged V)) (logged : Logged V) → failure_in (calls ++ logged ∷ []) ≡ option_or (failure_in calls) (failure_of_call logged.entry.call logged.item)
failure-push [] logged = or_nothing (failure_of_call logged.entry.call logged.item)
failure-push (first ∷ calls) logged =
    let own = failure_of_call first.entry.call first.item in
    ap (λ f. option_or own f) (failure-push calls logged) ∙ or_group own (failure_in calls) (failure_of_call logged.entry.call logged.item)

pub effective-push : {V : Type 0} (future : Future V) (calls : List (Logged V)) (logged : Logged V) → AreEffective future calls → IsEffective (record future { calls = future.calls ++ calls }) logged → AreEffective future (calls ++ logged ∷ [])
effective-push future [] logged h e =
    (subst (λ xs. IsEffective (record future { calls = xs }) logged) (append-nil future.calls) e, tt)
effective-push future (first ∷ calls) logged h e =
    (h.0, effective-push (with_call future first) calls logged h.1 (subst (λ xs. IsEffective (record future { calls = xs }) logged) (sym (append_assoc future.calls (first ∷ []) calls)) e))

-- what is kept after one call more
pub kept_with : {V : Type 0} (future : Future V) (booked booked' : Booked) (store store' : Stored V) (failure failure' : Option Failure) (logged : Logged V) → IsKept future booked store failure → IsEffective future logged → store' ≡ results_of (with_call future logged) → failure' ≡ failure_of (with_call future logged) → booked'.events ≡ booked.events ++ posted_by future.filter (reports_of future.calls) logged → HasRoom booked' → IsKept (with_call future logged) booked' store' failure'
kept_with future booked booked' store store' failure failure' logged kept effective results failed events room = record {
  legal = effective-push (record future { calls = [] }) future.calls logged kept.legal effective;
  results = results;
  events = events ∙ ap (λ es. es ++ posted_by future.filter (reports_of future.calls) logged) kept.events ∙ sym (posted-push future.filter [] future.calls logged);
  failure_kept = failed;
  room = room;
}

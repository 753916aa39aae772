use Rattle.std.proofs.Common.{◌≡◌, ℕ, ◌++◌, ◌∷◌, ◌||◌, List, [], Result, Err, ap, sym, ◌∙◌, subst}
use Rattle.qtc_events.specs.Flags.{Standing}
use Rattle.qtc_events.specs.Journal.{flags_after_all, posts_of_entry}
use Rattle.qtc_events.specs.declared.calls.Call.{Call}
use Rattle.qtc_events.specs.declared.calls.Call.TheVariants.{Report}
use Rattle.qtc_events.specs.declared.entries.Entry.{Entry}
use Rattle.qtc_events.specs.declared.events.Event.{Event}
use Rattle.qtc_store.specs.declared.batch.Added.{Added}
use Rattle.qtc_store.specs.declared.batch.AddFault.{AddFault}
use Rattle.qtc_store.specs.declared.batch.AddFault.TheVariants.{Taken, PastEnd}
use Rattle.qtc_store.specs.Batches.{least_covered}
use Rattle.qtc_store.specs.Stored.{batch_with, count_of, NothingRefuses}
use Rattle.qtc_future.specs.Future.{results_of}
use Rattle.qtc_future.specs.Steps.{has_ended, reached_by, report_of, with_call}
use Rattle.qtc_future.specs.Answering.{lacking_at}
use Rattle.qtc_future.specs.Core.{calls_read, seen, IsKept}
use Rattle.qtc_future.proofs.OneMore.{entries-read}
use Rattle.qtc_future.proofs.Plain.{carrying}
use Rattle.qtc_future.proofs.Reporting.{kept_report, lacking_try, refused_step, refused_sure, report_step, seen_report, store_with, unrefused_free, with_batch_some}
use Rattle.qtc_future.proofs.future_core.FutureCore.offer.Goals as goal

pub invariant_of-self-then-total-gt0 : goal.invariant_of-self-then-total-gt0
invariant_of-self-then-total-gt0 g c =
    let inside = c.self.inside in
    let b = batch_with c.args.begin c.args.values c.args.total in
    let reached = c.reached-reached.result in
    let added = c.in-Ok-add_batch.added in
    let stored : c.add_batch.new.self ≡ store_with inside.store b = c.in-Ok-add_batch.ensures.stored ∙ with_batch_some inside.store b c.if-total-gt0.true in
    let flags = ap flags_after_all (entries-read inside.store.batches inside.failure inside.book.journal) in
    let filter : c.is_filter-filter.result ≡ inside.store.filter = c.is_filter-filter.ensures ∙ ap (λ s. s.filter) stored in
    let with : Call → Entry = λ k. record { caller = c.args.caller; call = k; reached = reached } in
    let call : Report c.args.begin c.len.result c.args.total ≡ report_of b = ap (λ (n : ℕ). let k : Call = Report c.args.begin n c.args.total in k) c.len.ensures in
    let made : Entry = with (Report c.args.begin c.len.result c.args.total) in
    subst (λ s. IsKept (seen inside.thresholds c.enter.new.self s inside.failure) c.enter.new.self s inside.failure) (sym stored)
    (kept_report inside.thresholds inside.book c.enter.new.self inside.store inside.failure c.args.caller b reached added.old_count added.new_count c.self.invariant
    (sym (ap (λ (s : Standing). s.canceled || s.finished) flags) ∙ ap has_ended c.self.view_is ∙ c.requires.going)
    c.if-total-gt0.true
    c.in-Ok-add_batch.ensures.accepted
    (record { few = c.requires.few; whole = λ plain. c.requires.whole (sym (ap (λ f. f.filter) c.self.view_is) ∙ plain) })
    (c.reached-reached.ensures ∙ ap (λ k. reached_by c.args.self.now k) call ∙ ap (λ f. reached_by f (report_of b)) (sym c.self.view_is))
    c.in-Ok-add_batch.ensures.old_count
    (c.in-Ok-add_batch.ensures.new_count ∙ ap count_of stored)
    (c.enter.ensures.journal ∙ ap (λ (js : List Entry). js ++ made ∷ []) c.reserve.ensures.journal ∙ ap (λ k. inside.book.journal ++ with k ∷ []) call)
    (c.enter.ensures.events
    ∙ ap (λ (es : List Event). es ++ posts_of_entry c.is_filter-filter.result made added.old_count added.new_count) c.reserve.ensures.events
    ∙ ap (λ f. inside.book.events ++ posts_of_entry f made added.old_count added.new_count) filter
    ∙ ap (λ k. inside.book.events ++ posts_of_entry inside.store.filter (with k) added.old_count added.new_count) call)
    c.enter.ensures.room)

pub returns-then-total-gt0-clause-ok : goal.returns-then-total-gt0-clause-ok
returns-then-total-gt0-clause-ok g c =
    let inside = c.self.inside in
    let b = batch_with c.args.begin c.args.values c.args.total in
    let reached = c.reached-reached.result in
    let added = c.in-Ok-add_batch.added in
    let future = seen inside.thresholds inside.book inside.store inside.failure in
    let stored : c.add_batch.new.self ≡ store_with inside.store b = c.in-Ok-add_batch.ensures.stored ∙ with_batch_some inside.store b c.if-total-gt0.true in
    let with : Call → Entry = λ k. record { caller = c.args.caller; call = k; reached = reached } in
    let call : Report c.args.begin c.len.result c.args.total ≡ report_of b = ap (λ (n : ℕ). let k : Call = Report c.args.begin n c.args.total in k) c.len.ensures in
    let made : Entry = with (Report c.args.begin c.len.result c.args.total) in
    let grown = c.enter.ensures.journal ∙ ap (λ (js : List Entry). js ++ made ∷ []) c.reserve.ensures.journal ∙ ap (λ k. inside.book.journal ++ with k ∷ []) call in
    let kept = c.self.invariant.results ∙ ap results_of c.self.view_is in
    let unrefused = subst (λ s. NothingRefuses s c.args.begin c.args.total) kept c.in-Ok-add_batch.ensures.accepted in
    let free = unrefused_free inside.store.batches c.args.begin c.args.total c.in-Ok-add_batch.ensures.accepted in
    let reaches = c.reached-reached.ensures ∙ ap (λ k. reached_by c.args.self.now k) call in
    report_step c.args.self.now _ c.args.caller b added reached unrefused c.if-total-gt0.true
    (ap (λ s. seen inside.thresholds c.enter.new.self s inside.failure) stored
    ∙ seen_report inside.thresholds inside.book c.enter.new.self inside.store inside.failure c.args.caller b reached c.self.invariant c.if-total-gt0.true free grown
    ∙ ap (λ r. with_call future (carrying (record { caller = c.args.caller; call = report_of b; reached = r }) c.args.values [])) reaches
    ∙ ap (λ f. with_call f (carrying (record { caller = c.args.caller; call = report_of b; reached = reached_by c.args.self.now (report_of b) }) c.args.values [])) c.self.view_is)
    reaches
    c.in-Ok-add_batch.ensures.begin
    (c.in-Ok-add_batch.ensures.old_count ∙ ap count_of kept)
    (c.in-Ok-add_batch.ensures.new_count ∙ ap count_of (invariant_of-self-then-total-gt0 g c).results)

pub returns-in-Err-clause-ok : goal.returns-in-Err-clause-ok
returns-in-Err-clause-ok g c =
    let inside = c.self.inside in
    let b = batch_with c.args.begin c.args.values c.args.total in
    let kept = c.self.invariant.results ∙ ap results_of c.self.view_is in
    let least = ap (λ s. least_covered s.batches c.args.begin c.args.total) (sym kept) in
    let told : (f : AddFault) → c.in-Err.fault ≡ f → c.add_batch.result ≡ Err f = λ f e. c.in-Err.is ∙ ap (λ (x : AddFault). let r : Result Added AddFault = Err x in r) e in
    refused_step c.args.self.now _ c.args.caller b _ c.in-Err.fault c.refused.result c.refused.ensures
    (λ i e. least ∙ (c.add_batch.ensures.taken i).0 (told (Taken i) e))
    (λ e. let past = c.add_batch.ensures.past_end.0 (told PastEnd e) in (least ∙ past.0, past.1))
    (ap (λ s. seen inside.thresholds c.reserve.new.self s inside.failure) c.in-Err.ensures.unchanged
    ∙ ap (λ (js : List Entry). record { filter = inside.store.filter; thresholds = inside.thresholds; calls = calls_read inside.store.batches inside.failure js }) c.reserve.ensures.journal
    ∙ c.self.view_is)

pub returns-in-Err-clause-sure : goal.returns-in-Err-clause-sure
returns-in-Err-clause-sure g c =
    let kept = c.self.invariant.results ∙ ap results_of c.self.view_is in
    let least = ap (λ s. least_covered s.batches c.args.begin c.args.total) kept in
    refused_sure c.args.self.now c.args.caller (batch_with c.args.begin c.args.values c.args.total) _ c.in-Err.fault c.add_batch.result c.refused.result c.in-Err.is c.refused.ensures
    (λ i e. (c.add_batch.ensures.taken i).1 (least ∙ e))
    (λ e end. c.add_batch.ensures.past_end.1 (least ∙ e, end))

pub returns-in_default-clause-ok : goal.returns-in_default-clause-ok
returns-in_default-clause-ok g c =
    let inside = c.self.inside in
    let same = ap (λ (js : List Entry). record { filter = inside.store.filter; thresholds = inside.thresholds; calls = calls_read inside.store.batches inside.failure js }) c.reserve.ensures.journal ∙ c.self.view_is in
    (lacking_try c.args.self.now _ c.args.caller (batch_with c.args.begin c.args.values c.args.total) c.lacking.result
    (c.lacking.ensures ∙ ap (λ f. lacking_at (results_of f) c.args.begin c.args.total) same) same).ok

pub returns-in_default-clause-sure : goal.returns-in_default-clause-sure
returns-in_default-clause-sure g c =
    let inside = c.self.inside in
    let same = ap (λ (js : List Entry). record { filter = inside.store.filter; thresholds = inside.thresholds; calls = calls_read inside.store.batches inside.failure js }) c.reserve.ensures.journal ∙ c.self.view_is in
    (lacking_try c.args.self.now _ c.args.caller (batch_with c.args.begin c.args.values c.args.total) c.lacking.result
    (c.lacking.ensures ∙ ap (λ f. lacking_at (results_of f) c.args.begin c.args.total) same) same).sure

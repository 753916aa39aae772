use Rattle.std.proofs.Common.{◌++◌, ◌∷◌, [], IsTrue, ap, sym, ◌∙◌, subst}
use Rattle.qtc_events.specs.Flags.{Standing}
use Rattle.qtc_events.specs.Calls.{has_effect}
use Rattle.qtc_events.specs.Journal.{flags_after_all, posts_of_entry}
use Rattle.qtc_events.specs.declared.entries.Entry.{Entry}
use Rattle.qtc_future.specs.Future.{flags_of}
use Rattle.qtc_future.specs.Steps.{reached_by}
use Rattle.qtc_future.proofs.OneMore.{entries-read}
use Rattle.qtc_future.proofs.Plain.{kept_plain}
use Rattle.qtc_future.proofs.future_core.FutureCore.try_log.Goals as goal

pub invariant_of-self-2 : goal.invariant_of-self-2
invariant_of-self-2 g c =
    let inside = c.self.inside in
    let entry : Entry = record { caller = c.args.caller; call = c.args.call; reached = c.reached-reached.result } in
    let flags = ap flags_of (sym c.self.view_is) ∙ ap flags_after_all (entries-read inside.store.batches inside.failure inside.book.journal) in
    kept_plain inside.thresholds inside.book c.enter.new.self inside.store inside.failure entry c.self.invariant
    c.requires.plain
    (subst (λ (s : Standing). IsTrue (has_effect s c.args.call)) flags c.requires.effect)
    (c.reached-reached.ensures ∙ ap (λ f. reached_by f c.args.call) (sym c.self.view_is))
    (c.enter.ensures.journal ∙ ap (λ js. js ++ entry ∷ []) c.reserve.ensures.journal)
    (c.enter.ensures.events ∙ ap (λ es. es ++ posts_of_entry c.is_filter.result entry 0 0) c.reserve.ensures.events ∙ ap (λ f. inside.book.events ++ posts_of_entry f entry 0 0) c.is_filter.ensures)
    c.enter.ensures.room

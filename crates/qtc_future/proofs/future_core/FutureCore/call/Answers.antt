use Rattle.std.proofs.Common.{◌++◌, [], ap, sym, ◌∙◌}
use Rattle.qtc_events.specs.Calls.{has_effect}
use Rattle.qtc_events.specs.Journal.{flags_after_all, posts_of_entry}
use Rattle.qtc_events.specs.declared.entries.Entry.{Entry}
use Rattle.qtc_events.specs.declared.entries.Reached.TheVariants.{Nothing}
use Rattle.qtc_future.specs.Future.{flags_of}
use Rattle.qtc_future.specs.Steps.{logged_by, with_call}
use Rattle.qtc_future.specs.Core.{seen}
use Rattle.qtc_future.proofs.OneMore.{entries-read}
use Rattle.qtc_future.proofs.Plain.{kept_plain, seen_logged, row_taken, idle_reached, free_plain, free_counts}
use Rattle.qtc_future.proofs.future_core.FutureCore.call.Goals as goal

pub invariant_of-self : goal.invariant_of-self
invariant_of-self g c =
    let inside = c.self.inside in
    let future = seen inside.thresholds inside.book inside.store inside.failure in
    let entry : Entry = record { caller = c.args.caller; call = c.args.call; reached = Nothing } in
    kept_plain inside.thresholds inside.book c.enter.new.self inside.store inside.failure entry c.self.invariant
    (free_plain c.args.call c.requires)
    (sym (c.has_effect-effect.ensures ∙ ap (λ s. has_effect s c.args.call) c.flags.ensures) ∙ c.if-effect.true)
    (idle_reached future c.args.call (free_counts c.args.call c.requires))
    c.enter.ensures.journal
    (c.enter.ensures.events ∙ ap (λ f. inside.book.events ++ posts_of_entry f entry 0 0) c.is_filter.ensures)
    c.enter.ensures.room

pub returns-then-effect : goal.returns-then-effect
returns-then-effect g c =
    let inside = c.self.inside in
    let future = seen inside.thresholds inside.book inside.store inside.failure in
    let entry : Entry = record { caller = c.args.caller; call = c.args.call; reached = Nothing } in
    let flags = c.flags.ensures ∙ sym (ap flags_after_all (entries-read inside.store.batches inside.failure inside.book.journal)) ∙ ap flags_of c.self.view_is in
    row_taken c.args.self.now _ c.args.caller c.args.call [] c.has_effect-effect.result
    (c.has_effect-effect.ensures ∙ ap (λ s. has_effect s c.args.call) flags)
    c.if-effect.true
    (seen_logged inside.thresholds inside.book c.enter.new.self inside.store inside.failure entry (free_plain c.args.call c.requires) (idle_reached future c.args.call (free_counts c.args.call c.requires)) c.enter.ensures.journal
    ∙ ap (λ f. with_call f (logged_by f c.args.caller c.args.call [] [])) c.self.view_is)

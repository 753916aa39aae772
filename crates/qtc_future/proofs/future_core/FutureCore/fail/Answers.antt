use Rattle.std.proofs.Common.{◌++◌, [], ap, sym, ◌∙◌, refl}
use Rattle.qtc_events.specs.Calls.{has_effect}
use Rattle.qtc_events.specs.Journal.{flags_after_all, posts_of_entry}
use Rattle.qtc_events.specs.declared.calls.Call.{Call}
use Rattle.qtc_events.specs.declared.calls.Call.TheVariants.{Fail}
use Rattle.qtc_events.specs.declared.entries.Entry.{Entry}
use Rattle.qtc_events.specs.declared.entries.Reached.TheVariants.{Nothing}
use Rattle.qtc_future.specs.Future.{flags_of}
use Rattle.qtc_future.specs.Steps.{logged_by, with_call}
use Rattle.qtc_future.specs.Core.{seen}
use Rattle.qtc_future.proofs.OneMore.{entries-read}
use Rattle.qtc_future.proofs.Plain.{row_taken, idle_reached}
use Rattle.qtc_future.proofs.Failing.{kept_failed, seen_failing}
use Rattle.qtc_future.proofs.future_core.FutureCore.fail.Goals as goal

pub invariant_of-self : goal.invariant_of-self
invariant_of-self g c =
    let inside = c.self.inside in
    let future = seen inside.thresholds inside.book inside.store inside.failure in
    let call : Call = Fail c.args.index in
    let entry : Entry = record { caller = c.args.caller; call = call; reached = Nothing } in
    kept_failed inside.thresholds inside.book c.enter.new.self inside.store inside.failure c.args.caller Nothing c.args.index c.args.item c.self.invariant
    (sym (c.has_effect-fails.ensures ∙ ap (λ s. has_effect s call) c.flags.ensures) ∙ c.if-fails.true)
    (idle_reached future call refl)
    c.enter.ensures.journal
    (c.enter.ensures.events ∙ ap (λ f. inside.book.events ++ posts_of_entry f entry 0 0) c.is_filter.ensures)
    c.enter.ensures.room

pub returns-then-fails : goal.returns-then-fails
returns-then-fails g c =
    let inside = c.self.inside in
    let future = seen inside.thresholds inside.book inside.store inside.failure in
    let call : Call = Fail c.args.index in
    let flags = c.flags.ensures ∙ sym (ap flags_after_all (entries-read inside.store.batches inside.failure inside.book.journal)) ∙ ap flags_of c.self.view_is in
    row_taken c.args.self.now _ c.args.caller call c.args.item c.has_effect-fails.result
    (c.has_effect-fails.ensures ∙ ap (λ s. has_effect s call) flags)
    c.if-fails.true
    (seen_failing inside.thresholds inside.book c.enter.new.self inside.store inside.failure c.args.caller Nothing c.args.index c.args.item (sym (c.has_effect-fails.ensures ∙ ap (λ s. has_effect s call) c.flags.ensures) ∙ c.if-fails.true) (idle_reached future call refl) c.enter.ensures.journal
    ∙ ap (λ f. with_call f (logged_by f c.args.caller call [] c.args.item)) c.self.view_is)

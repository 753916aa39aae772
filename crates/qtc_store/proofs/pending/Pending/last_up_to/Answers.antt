use Rattle.std.proofs.Common.{map, None, ap, sym, ◌∙◌}
use Rattle.std.specs.List.{last_or}
use Rattle.qtc_store.proofs.PendingLemmas.{batch_at, entries_up_to, last_entry}
use Rattle.qtc_store.proofs.pending.Pending.last_up_to.Goals as goal

pub returns-in-Some : goal.returns-in-Some
returns-in-Some g c =
    last_entry c.args.index c.args.self.now.batches.entries c.next_back.new.self (c.in-Some.field-0-0.now, c.in-Some.batch.now) c.requires.keys (sym (c.range.ensures.between tt) ∙ c.in-Some.ensures.steps)

pub returns-in-None : goal.returns-in-None
returns-in-None g c =
    let list = sym (entries_up_to c.args.index c.args.self.now.batches.entries c.requires.keys) ∙ ap (map batch_at) (sym (c.range.ensures.between tt) ∙ c.in-None.ensures.steps.0) in
    ap (last_or None) (sym list)

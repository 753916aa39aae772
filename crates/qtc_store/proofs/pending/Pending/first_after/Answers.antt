use Rattle.std.proofs.Common.{map, slice_get, ap, sym, ◌∙◌}
use Rattle.qtc_store.proofs.PendingLemmas.{batch_at, entries_after}
use Rattle.qtc_store.proofs.pending.Pending.first_after.Goals as goal

pub returns-in-Some : goal.returns-in-Some
returns-in-Some g c =
    let list = sym (entries_after c.args.index c.args.self.now.batches.entries c.requires.keyed.keys) ∙ ap (map batch_at) (sym (c.range.ensures.between tt) ∙ c.in-Some.ensures.steps) in
    ap (λ xs. slice_get xs 0) (sym list)

pub returns-in-None : goal.returns-in-None
returns-in-None g c =
    let list = sym (entries_after c.args.index c.args.self.now.batches.entries c.requires.keyed.keys) ∙ ap (map batch_at) (sym (c.range.ensures.between tt) ∙ c.in-None.ensures.steps.0) in
    ap (λ xs. slice_get xs 0) (sym list)

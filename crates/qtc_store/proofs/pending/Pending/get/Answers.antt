use Rattle.std.proofs.Common.{◌-◌, slice_get, ap, sym, ◌∙◌}
use Rattle.qtc_store.specs.Inside.{waiting_in}
use Rattle.qtc_store.proofs.PendingLemmas.{value_read, split_at, none_split, value_in_split, value_in_none}
use Rattle.qtc_store.proofs.pending.Pending.get.Goals as goal

pub overflow_sub-index : goal.overflow_sub-index
overflow_sub-index g c =
    (split_at c.args.index (waiting_in c.args.self.now) c.in-Some.batch.now c.requires.apart (sym c.in-Some.ensures)).begins

pub returns-in-Some : goal.returns-in-Some
returns-in-Some g c =
    let s = split_at c.args.index (waiting_in c.args.self.now) c.in-Some.batch.now c.requires.apart (sym c.in-Some.ensures) in
    value_read c.as_slice.result.now (c.args.index - c.in-Some.batch.now.begin) c.get.result c.get.ensures.lookup.0 c.get.ensures.lookup.1 ∙ ap (λ xs. slice_get xs (c.args.index - c.in-Some.batch.now.begin)) c.as_slice.ensures ∙ sym (value_in_split c.args.index (waiting_in c.args.self.now) c.in-Some.batch.now s c.requires.apart c.requires.few)

pub returns-in-None : goal.returns-in-None
returns-in-None g c =
    sym (value_in_none c.args.index (waiting_in c.args.self.now) (none_split c.args.index (waiting_in c.args.self.now) c.requires.apart (sym c.in-None.ensures)) c.requires.few)

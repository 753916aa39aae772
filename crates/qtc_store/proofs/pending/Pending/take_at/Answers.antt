use Rattle.std.proofs.Common.{All, subst}
use Rattle.std.proofs.lemmas.List.Elements.{All-tail}
use Rattle.qtc_store.proofs.PendingLemmas.{Keyed, first_at, first_elsewhere}
use Rattle.qtc_store.proofs.pending.Pending.take_at.Goals as goal

pub returns-then-begin-place-clause-at : goal.returns-then-begin-place-clause-at
returns-then-begin-place-clause-at g c =
    first_elsewhere c.args.place c.args.self.now.batches.entries c.in_ok-begin.begin.now c.in_ok-begin.field-0-1.now c.requires.keys c.in_ok-begin.ensures.first c.if-begin-place.true

pub returns-clause-keyed : goal.returns-clause-keyed
returns-clause-keyed g c =
    let old = subst (All Keyed) c.in_ok-batch.ensures.removal c.requires.keys in
    record { keys = All-tail Keyed (c.in_ok-batch.field-0-0, c.in_ok-batch.batch) c.pop_first.new.self.entries old }

pub returns-clause-at : goal.returns-clause-at
returns-clause-at g c =
    first_at c.args.place c.args.self.now.batches.entries c.pop_first.new.self.entries (c.in_ok-batch.field-0-0, c.in_ok-batch.batch) c.in_ok-begin.begin.now c.in_ok-begin.field-0-1.now c.requires.keys c.in_ok-begin.ensures.first c.in_ok-batch.ensures.removal c.if-begin-place.false

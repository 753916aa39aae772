use Rattle.std.proofs.Common.{All, map, ap, sym, ◌∙◌, subst}
use Rattle.qtc_store.proofs.PendingLemmas.{Keyed, batch_at, entries_placed, entries_keyed}
use Rattle.qtc_store.proofs.pending.Pending.insert.Goals as goal

pub returns-clause-keyed : goal.returns-clause-keyed
returns-clause-keyed g c =
    record { keys = subst (All Keyed) (sym c.in_ok-insert.ensures.entries) (entries_keyed c.args.self.now.batches.entries c.args.batch c.requires.keyed.keys c.requires.apart) }

pub returns-clause-ok : goal.returns-clause-ok
returns-clause-ok g c =
    ap (map batch_at) c.in_ok-insert.ensures.entries ∙ entries_placed c.args.self.now.batches.entries c.args.batch c.requires.keyed.keys c.requires.apart

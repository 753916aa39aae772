use Rattle.std.proofs.Common.{◌+◌, ◌∙◌, ap, unwrap_or, rules}
use Rattle.qtc_ops.specs.Order.{capped}
use Rattle.qtc_ops.proofs.CountLemmas.{counted-entry}
use Rattle.qtc_ops.proofs.tallies.Counts.add.Goals as goal

pub returns-clause-ok : goal.returns-clause-ok
returns-clause-ok c =
    let entry = c.in_ok-self-inside.ensures in
    let more = c.saturating_add.result in
    let counted = entry.update.1 more in
    rw (← c.self.view_is)
    (counted-entry (λ k. k.items) c.args.value.now c.in_ok-key.key more c.self.inside.counts.entries _ c.in_ok-key.ensures.items
    (c.saturating_add.ensures ∙ ap (λ n. capped (n + 1)) (c.or_insert-count.ensures.value ∙ ap (λ o. unwrap_or o 0) entry.value))
    (search (rules, counted)))

use Rattle.std.proofs.Common.{[], ap, sym, ◌∙◌, arith}
use Rattle.std.specs.Prelude.{unwrap_or}
use Rattle.qtc_outside.proofs.ShelfLemmas.{text_at-past, under-hit, under-past}
use Rattle.qtc_outside.proofs.shelf.Shelf.find.Goals as goal

pub returns-then-eq-clause-text : goal.returns-then-eq-clause-text
returns-then-eq-clause-text c =
    let name = c.as_slice.ensures ∙ ap (λ pair. pair.0) c.pair-item.is in
    let hit = under-hit _ _ _ c.pair-item.result _ _ c.as_slice-pair-items.ensures c.loop-place-test.true name c.if-eq.ensures in
    sym (ap (λ o. unwrap_or o []) (sym c.loop-place.invariant ∙ hit))

pub returns-clause-text : goal.returns-clause-text
returns-clause-text c =
    let none = under-past c.args.self.now.texts c.as_slice-pair-items.result.now c.loop-place.place c.args.name.now c.as_slice-pair-items.ensures c.loop-place-test.false in
    text_at-past c.args.self.now.texts c.len.result (let len = c.len.ensures in omega arith) ∙ sym (ap (λ o. unwrap_or o []) (sym c.loop-place.invariant ∙ none))

use Rattle.std.proofs.Common.{ap, sym, ◌∙◌}
use Rattle.qtc_outside.specs.Shelf.{text_at}
use Rattle.qtc_outside.proofs.ShelfLemmas.{text_at-get, text_at-past}
use Rattle.qtc_outside.proofs.shelf.Shelf.text.Goals as goal

pub returns-in-Some : goal.returns-in-Some
returns-in-Some c =
    let there = c.in-Some.ensures.lookup.3 in
    c.as_slice-in-Some.ensures ∙ (ap (λ pair. pair.1) (there.1 c.in-Some.pair.now) ∙ (sym (text_at-get c.as_slice.result.now _ c.in-Some.pair.now there.0) ∙ ap (λ s. text_at s c.args.self.now.place) c.as_slice.ensures))

pub returns-in-None : goal.returns-in-None
returns-in-None c =
    sym (text_at-past c.as_slice.result.now _ c.in-None.ensures.lookup.3) ∙ ap (λ s. text_at s c.args.self.now.place) c.as_slice.ensures

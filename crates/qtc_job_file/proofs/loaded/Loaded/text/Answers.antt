use Rattle.std.proofs.Common.{[], Vec, ℕ, Global, ap, sym, ◌∙◌}
use Rattle.std.specs.Arc.{arc_value}
use Rattle.std.specs.Prelude.{unwrap_or, is_some}
use Rattle.qtc_outside.specs.Shelf.{text_under}
use Rattle.qtc_job_file.specs.LoadedInside.{seen_texts}
use Rattle.qtc_job_file.proofs.TextLemmas.{some-found, found-under, under-short}
use Rattle.qtc_job_file.proofs.loaded.Loaded.text.Goals as goal

pub unwrap-requires : goal.unwrap-requires
unwrap-requires c =
    some-found (λ (k : Vec ℕ Global). k.items) arc_value c.args.name.now c.self.inside.texts.entries c.get.result c.get.ensures.value (ap (λ t. is_some (text_under t c.args.name.now)) c.self.view_is ∙ c.requires)

pub returns-clause-text : goal.returns-clause-text
returns-clause-text c =
    let hit = found-under (λ (k : Vec ℕ Global). k.items) arc_value c.args.name.now c.self.inside.texts.entries c.get.result c.unwrap.result c.get.ensures.value c.unwrap.ensures in
    c.as_slice.ensures ∙ (c.deref.ensures ∙ ap (λ o. unwrap_or o []) (sym hit ∙ ap (λ t. text_under t c.args.name.now) c.self.view_is))

pub returns-clause-short : goal.returns-clause-short
returns-clause-short c =
    let hit = found-under (λ (k : Vec ℕ Global). k.items) arc_value c.args.name.now c.self.inside.texts.entries c.get.result c.unwrap.result c.get.ensures.value c.unwrap.ensures in
    rw (c.as_slice.ensures, c.deref.ensures) (under-short (seen_texts c.self.inside) c.args.name.now (arc_value c.unwrap.result.now) c.self.invariant.short hit)

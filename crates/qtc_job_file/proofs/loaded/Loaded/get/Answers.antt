use Rattle.std.proofs.Common.{◌≡◌, Some, Vec, ℕ, Global, ap, sym, ◌∙◌}
use Rattle.std.specs.Arc.{arc_value}
use Rattle.std.specs.Option.{option_map}
use Rattle.std.specs.Prelude.{option_copied}
use Rattle.qtc_outside.specs.Shelf.{text_under}
use Rattle.qtc_job_file.proofs.TextLemmas.{lookup-under}
use Rattle.qtc_job_file.proofs.loaded.Loaded.get.Goals as goal

pub returns-in-Some : goal.returns-in-Some
returns-in-Some c =
    let found : option_map arc_value (option_copied c.get.result) ≡ text_under c.args.self.now c.args.name.now =
    ap (option_map arc_value) c.get.ensures.value ∙ (lookup-under (λ (k : Vec ℕ Global). k.items) arc_value c.args.name.now c.self.inside.texts.entries ∙ ap (λ t. text_under t c.args.name.now) c.self.view_is) in
    ap Some (c.as_slice.ensures ∙ c.deref.ensures) ∙ (ap (λ o. option_map arc_value (option_copied o)) (sym c.in-Some.is) ∙ found)

pub returns-in-None : goal.returns-in-None
returns-in-None c =
    let found : option_map arc_value (option_copied c.get.result) ≡ text_under c.args.self.now c.args.name.now =
    ap (option_map arc_value) c.get.ensures.value ∙ (lookup-under (λ (k : Vec ℕ Global). k.items) arc_value c.args.name.now c.self.inside.texts.entries ∙ ap (λ t. text_under t c.args.name.now) c.self.view_is) in
    ap (λ o. option_map arc_value (option_copied o)) (sym c.in-None.is) ∙ found

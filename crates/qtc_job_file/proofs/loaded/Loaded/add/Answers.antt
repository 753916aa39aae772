use Rattle.std.proofs.Common.{◌≡◌, None, [], ◌∷◌, ◌++◌, Vec, ℕ, Global, ap, sym, subst, ◌∙◌}
use Rattle.std.specs.Arc.{arc_value}
use Rattle.qtc_outside.specs.Shelf.{text_under}
use Rattle.qtc_job_file.specs.Texts.{AreTexts}
use Rattle.qtc_job_file.specs.LoadedInside.{seen_texts}
use Rattle.qtc_job_file.proofs.TextLemmas.{seen-insert, texts-more}
use Rattle.qtc_job_file.proofs.loaded.Loaded.add.Goals as goal

pub invariant_of-self-2 : goal.invariant_of-self-2
invariant_of-self-2 c =
    let none : text_under (seen_texts c.self.inside) c.args.name ≡ None = ap (λ t. text_under t c.args.name) c.self.view_is ∙ c.requires.new in
    let put = seen-insert (λ (k : Vec ℕ Global). k.items) arc_value c.args.name c.args.text c.into_vec.result c.in_ok-text.text c.self.inside.texts.entries c.insert.new.self.entries c.into_vec.ensures c.in_ok-text.ensures.ok none c.in_ok-insert.ensures.entries in
    subst AreTexts (sym put) (texts-more (seen_texts c.self.inside) c.args.name c.args.text c.self.invariant none c.requires.short)

pub returns-clause-ok : goal.returns-clause-ok
returns-clause-ok c =
    let none : text_under (seen_texts c.self.inside) c.args.name ≡ None = ap (λ t. text_under t c.args.name) c.self.view_is ∙ c.requires.new in
    let put = seen-insert (λ (k : Vec ℕ Global). k.items) arc_value c.args.name c.args.text c.into_vec.result c.in_ok-text.text c.self.inside.texts.entries c.insert.new.self.entries c.into_vec.ensures c.in_ok-text.ensures.ok none c.in_ok-insert.ensures.entries in
    put ∙ ap (λ texts. texts ++ (c.args.name, c.args.text) ∷ []) c.self.view_is

use Rattle.std.proofs.Common.{ℕ, ◌-◌, List, Some, None, sym, ap, ◌∙◌, arith}
use Rattle.std.specs.Option.{option_map}
use Rattle.std.specs.Borrow.{Bor}
use Rattle.std.proofs.lemmas.Iterator.Consumers.{YieldsList-from_first, nth_from_yields_List}
use Rattle.qtc_base.specs.Words.{words_left}
use Rattle.qtc_ops.specs.Fields.{fields}
use Rattle.qtc_ops.proofs.FieldLemmas.{field-at}
use Rattle.qtc_ops.proofs.fields.nth_field.Goals as goal

pub returns-in-Some : goal.returns-in-Some
returns-in-Some c =
    field-at c.args.number c.args.item.now (Some c.in-Some.field.now) (omega arith)
    (ap (option_map (λ (x : Bor (List ℕ)). x.now)) (sym c.in-Some.is) ∙ nth_from_yields_List c.nth.result c.nth.new.self (c.args.number - 1) c.nth.ensures.ran
    (YieldsList-from_first (λ (x : Bor (List ℕ)). x.now) words_left (fields c.args.item.now) (ap words_left c.new.ensures)))

pub returns-in-None : goal.returns-in-None
returns-in-None c =
    field-at c.args.number c.args.item.now None (omega arith)
    (ap (option_map (λ (x : Bor (List ℕ)). x.now)) (sym c.in-None.is) ∙ nth_from_yields_List c.nth.result c.nth.new.self (c.args.number - 1) c.nth.ensures.ran
    (YieldsList-from_first (λ (x : Bor (List ℕ)). x.now) words_left (fields c.args.item.now) (ap words_left c.new.ensures)))

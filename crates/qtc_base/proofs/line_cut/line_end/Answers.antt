use Rattle.std.proofs.Common.{◌≡◌, ◌+◌, ◌-◌, ◌∷◌, [], List, ℕ, ap, drop, length, sym, take, ◌∙◌, arith}
use Rattle.std.specs.Prelude.{slice_range}
use Rattle.std.proofs.lemmas.Grind.{common_steps}
use Rattle.qtc_base.specs.Lines.{lines}
use Rattle.qtc_base.proofs.LineLemmas.{first_line, one_line}
use Rattle.qtc_base.proofs.line_cut.line_end.Goals as goal

pub returns-in-Some-clause-line : goal.returns-in-Some-clause-line
returns-in-Some-clause-line c =
    let text : List ℕ = c.args.text.now in
    let begin : ℕ = c.args.begin in
    let len : ℕ = c.in-Some.len in
    let rest : List ℕ = take (length text - begin) (drop begin text) in
    let found = c.in-Some.ensures in
    let whole : drop begin text ≡ rest = grind (arith, common_steps) in
    let line : take len rest ≡ slice_range text begin (begin + len) = grind (arith, common_steps) in
    let after : take (length rest - (len + 1)) (drop (len + 1) rest) ≡ drop (begin + len + 1) text = grind (arith, common_steps) in
    ap lines whole ∙ first_line rest len found.0.high found.0.before found.1 ∙ ap (λ first. first ∷ lines (take (length rest - (len + 1)) (drop (len + 1) rest))) line
    ∙ ap (λ others. slice_range text begin (begin + len) ∷ lines others) after

pub returns-in-None-clause-line : goal.returns-in-None-clause-line
returns-in-None-clause-line c =
    let text : List ℕ = c.args.text.now in
    let begin : ℕ = c.args.begin in
    let rest : List ℕ = take (length text - begin) (drop begin text) in
    let whole : drop begin text ≡ rest = grind (arith, common_steps) in
    let line : rest ≡ slice_range text begin (length text) = grind (arith, common_steps) in
    let after : drop (length text + 1) text ≡ [] = grind (arith, common_steps) in
    ap lines whole ∙ one_line rest (grind (arith, common_steps)) c.in-None.ensures ∙ ap (λ first. first ∷ []) line
    ∙ ap (λ others. slice_range text begin (length text) ∷ lines others) (sym after)

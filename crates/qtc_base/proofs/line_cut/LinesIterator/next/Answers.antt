use Rattle.std.proofs.Common.{arith, sym, ap, length, ◌∙◌}
use Rattle.std.proofs.lemmas.Grind.{common_steps}
use Rattle.qtc_base.specs.Lines.{lines}
use Rattle.qtc_base.proofs.LineLemmas.{one_line, first_line}
use Rattle.qtc_base.proofs.line_cut.LinesIterator.next.Goals as goal

pub returns-in-Some-clause-steps : goal.returns-in-Some-clause-steps
returns-in-Some-clause-steps c =
    let found = c.in-Some.ensures in
    ap lines (sym c.self.view_is) ∙ first_line c.self.inside.rest.now c.in-Some.end found.0.high found.0.before found.1

pub returns-in-Some-clause-goes : goal.returns-in-Some-clause-goes
returns-in-Some-clause-goes c =
    let found = c.in-Some.ensures in
    let steps = ap lines (sym c.self.view_is) ∙ first_line c.self.inside.rest.now c.in-Some.end found.0.high found.0.before found.1 in
    let fewer = ap length steps in
    grind (arith, common_steps)

pub returns-in-None-clause-steps : goal.returns-in-None-clause-steps
returns-in-None-clause-steps c = ap lines (sym c.self.view_is) ∙ one_line c.self.inside.rest.now (grind (arith, common_steps)) c.in-None.ensures

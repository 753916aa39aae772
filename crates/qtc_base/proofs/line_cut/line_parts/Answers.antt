use Rattle.std.proofs.Common.{◌≡◌, ◌≤◌, ◌++◌, [], List, ℕ, ap, drop, length, refl, subst, sym, ◌∙◌, arith}
use Rattle.std.proofs.lemmas.Grind.{common_steps}
use Rattle.std.proofs.lemmas.List.{append-nil}
use Rattle.std.proofs.lemmas.List.Elements.{All-nil}
use Rattle.qtc_base.specs.Lines.{lines}
use Rattle.qtc_base.specs.Parts.{AreWithin, parts_of}
use Rattle.qtc_base.specs.declared.ranges.Range.{Range}
use Rattle.qtc_base.proofs.LineLemmas.{found_more}
use Rattle.qtc_base.proofs.line_cut.line_parts.Goals as goal

pub loop-begin-init : goal.loop-begin-init
loop-begin-init c =
    let none = c.in_ok-parts.ensures.items in
    record {
      below = omega arith;
      within = subst (AreWithin c.args.text.now) (sym none) (All-nil (λ (part : Range). part.end ≤ length c.args.text.now));
      front = ap (λ parts. parts_of c.args.text.now parts ++ lines c.args.text.now) none;
    }

pub loop-begin-preserved : goal.loop-begin-preserved
loop-begin-preserved c =
    let found = c.line_end-end.ensures in
    let below = found.within.1 in
    let so_far = c.loop-begin.invariant in
    let more = found_more c.args.text.now c.loop-begin.parts.items c.push.new.self.items _ c.loop-begin.begin c.line_end-end.result c.in_ok-push.ensures.items refl refl below found.line so_far.within so_far.front in
    record { below = omega arith; within = more.0; front = more.1 }

pub returns-clause-within : goal.returns-clause-within
returns-clause-within c = c.loop-begin.invariant.within

pub returns-clause-lines : goal.returns-clause-lines
returns-clause-lines c =
    let text : List ℕ = c.args.text.now in
    let none : drop c.loop-begin.begin text ≡ [] = grind (arith, common_steps) in
    sym (append-nil (parts_of text c.loop-begin.parts.items)) ∙ ap (λ rest. parts_of text c.loop-begin.parts.items ++ lines rest) (sym none) ∙ c.loop-begin.invariant.front

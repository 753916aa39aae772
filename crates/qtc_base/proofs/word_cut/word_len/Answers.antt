use Rattle.std.proofs.Common.{◌≡◌, length, get_or, true, ap, arith}
use Rattle.qtc_base.specs.Words.{parts}
use Rattle.qtc_base.proofs.WordLemmas.{first_word}
use Rattle.qtc_base.proofs.word_cut.word_len.Goals as goal

pub returns-then-is_gap-clause-word : goal.returns-then-is_gap-clause-word
returns-then-is_gap-clause-word c =
    let gap : parts c.args.gaps.now (get_or c.args.text.now c.loop-place.place 0) ≡ true = let e = c.if-is_gap.ensures in cc in
    let not_first : c.loop-place.place ≡ 0 → ⊥ = λ e. let at = ap (λ k. parts c.args.gaps.now (get_or c.args.text.now k 0)) e in let word = c.requires.word in cc in
    let lt = c.loop-place-test.true in
    first_word c.args.gaps.now c.args.text.now c.loop-place.place (omega arith) (omega arith) c.loop-place.invariant (λ _. gap)

pub returns-clause-word : goal.returns-clause-word
returns-clause-word c =
    let end = c.loop-place-test.false in
    first_word c.args.gaps.now c.args.text.now (length c.args.text.now) c.requires.some (omega arith) (λ k h. c.loop-place.invariant k (omega arith)) (λ h. absurd (omega arith))

use Rattle.std.proofs.Common.{◌≤◌, length, sym, ◌∙◌, arith}
use Rattle.std.proofs.lemmas.Bool.{true≢false}
use Rattle.qtc_job.specs.Codes.{own_above}
use Rattle.qtc_job.proofs.StepLemmas.{above-repeated, above-late, above-none}
use Rattle.qtc_job.proofs.drafts.Draft.above_code.Goals as goal
use Rattle.qtc_job.proofs.drafts.Draft.above_code.Goals.{else-is_chain_word-via-then-is_chain_word+else-len-ge-MOST_CHAIN, else-is_chain_word-via-else-is_chain_word}

pub returns-then-has : goal.returns-then-has
returns-then-has c = λ names args above in_job d one.
    above-repeated args above c.args.keyword in_job (sym (c.if-has.ensures names (own_above above) d one))

pub returns-then-len-ge-MOST_CHAIN : goal.returns-then-len-ge-MOST_CHAIN
returns-then-len-ge-MOST_CHAIN c = λ names args above in_job d one.
    let not_single = sym (c.has.ensures names (own_above above) d one) ∙ c.if-has.false in
    let chain = sym (c.is_chain_word.ensures args one) ∙ c.if-is_chain_word.true in
    let long : 8 ≤ length c.args.self.now.chain = let e = c.len.ensures in let t = c.if-len-ge-MOST_CHAIN.true in omega arith in
    above-late args above c.args.keyword c.args.self.now.chain in_job not_single chain d.chain long

pub returns : goal.returns
returns c = λ names args above in_job d one.
    let not_single = sym (c.has.ensures names (own_above above) d one) ∙ c.if-has.false in
    above-none args above c.args.keyword c.args.self.now.chain in_job not_single d.chain (λ chain.
    elim c.else-is_chain_word.branch [
      | else-is_chain_word-via-then-is_chain_word+else-len-ge-MOST_CHAIN w ↦ let e = w.len.ensures in let t = w.if-len-ge-MOST_CHAIN.false in omega arith
      | else-is_chain_word-via-else-is_chain_word w ↦ absurd (true≢false (sym chain ∙ (sym (c.is_chain_word.ensures args one) ∙ w.if-is_chain_word.false)))
    ])

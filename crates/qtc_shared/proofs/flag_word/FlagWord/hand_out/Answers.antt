use Rattle.std.proofs.Common.{◌≡◌, ℕ, arith, ap, ◌∙◌, rules}
use Rattle.qtc_shared.specs.Passes.{PassState, pass_at}
use Rattle.qtc_shared.proofs.Places.{pushed_each, at_some}
use Rattle.qtc_shared.proofs.flag_word.FlagWord.hand_out.Goals as goal

pub loop-made-preserved : goal.loop-made-preserved
loop-made-preserved g c =
    let is = c.loop-made.invariant in
    let made = at_some _ _ _ _ c.unwrap-pass.ensures c.make_first.ensures.pass in
    let item : ℕ → PassState _ = λ number. pass_at c.args.self.now number c.args.book.core.value.calls in
    let next : c.unwrap-pass.result ≡ item c.loop-made._made =
    made.0 ∙ ap (λ n. pass_at c.args.self.now n c.loop-made.book.core.value.calls) is.made ∙ ap (λ core. pass_at c.args.self.now c.loop-made._made core.value.calls) is.core
    in
    record {
      book = search rules;
      core = search rules;
      made = let count = made.1 in let before = is.made in omega arith;
      count = search rules;
      room = search rules;
      each = pushed_each item c.loop-made.handed.items _ _ _ c.push_reserved.ensures.items is.count is.each next;
    }

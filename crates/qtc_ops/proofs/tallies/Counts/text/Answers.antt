use Rattle.std.proofs.Common.{◌≡◌, rules, ap, ◌∙◌, [], Vec, Global, ℕ}
use Rattle.qtc_ops.proofs.CountLemmas.{continued-all, continued, seen}
use Rattle.qtc_ops.proofs.tallies.Counts.text.Goals as goal

pub loop-value-init : goal.loop-value-init
loop-value-init c =
    let all : c.into_iter-value-iterator.result ≡ c.self.inside.counts.entries = search rules in
    ap (λ text. continued text (seen (λ (k : Vec ℕ Global). k.items) c.into_iter-value-iterator.result)) c.new-text.ensures
    ∙ (ap (λ entries. continued [] (seen (λ (k : Vec ℕ Global). k.items) entries)) all ∙ (ap (continued []) c.self.view_is ∙ continued-all c.args.self.now))

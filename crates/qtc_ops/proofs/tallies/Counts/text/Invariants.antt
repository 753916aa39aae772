use Rattle.std.proofs.Common.{◌≡◌}
use Rattle.qtc_ops.specs.Counts.{counts_text}
use Rattle.qtc_ops.proofs.CountLemmas.{continued, seen}
use Rattle.qtc_ops.proofs.tallies.Counts.text.Given as goal

abbrev pub invariant-loop-value : goal.invariant-loop-value
invariant-loop-value l = continued l.text (seen (λ k. k.items) l.value-iterator) ≡ counts_text l.self

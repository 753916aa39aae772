use Rattle.std.proofs.Common.{◌≡◌, ℕ, ◌<◌, get_or, false}
use Rattle.qtc_base.specs.Words.{parts}
use Rattle.qtc_base.proofs.word_cut.word_len.Given as goal

abbrev pub invariant-loop-place : goal.invariant-loop-place
invariant-loop-place l = (k : ℕ) → k < l.place → parts l.gaps (get_or l.text k 0) ≡ false

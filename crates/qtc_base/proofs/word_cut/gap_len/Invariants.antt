use Rattle.std.proofs.Common.{◌≡◌, drop}
use Rattle.qtc_base.specs.Words.{words_by}
use Rattle.qtc_base.proofs.word_cut.gap_len.Given as goal

abbrev pub invariant-loop-place : goal.invariant-loop-place
invariant-loop-place l = words_by l.gaps (drop l.place l.text) ≡ words_by l.gaps l.text

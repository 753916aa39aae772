use Rattle.std.proofs.Common.{◌≡◌, ◌++◌, length, map}
use Rattle.qtc_job_file.specs.Canonical.{written}
use Rattle.qtc_job.specs.Tails.{tail}
use Rattle.qtc_job.proofs.words_of.put_texts.Given as goal

abbrev pub invariant-loop-left : goal.invariant-loop-left
invariant-loop-left l = l.fn.into ++ tail (map written l.texts) ≡ l.into ++ tail (map written l.left)

abbrev pub decreases-loop-left : goal.decreases-loop-left
decreases-loop-left l = length l.left

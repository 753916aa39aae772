use Rattle.std.proofs.Common.{◌≡◌, ◌∷◌, ◌++◌, take}
use Rattle.qtc_job_file.specs.Canonical.{written}
use Rattle.qtc_job.proofs.words_out.put_literal.Given as goal

abbrev pub invariant-loop-byte : goal.invariant-loop-byte
invariant-loop-byte l = l.into ≡ l.fn.into ++ 32 ∷ written (take l.byte-index l.text)

use Rattle.std.proofs.Common.{◌≡◌, length}
use Rattle.qtc_job.specs.Literals.{literal_of}
use Rattle.qtc_job.proofs.LiteralLemmas.{after_text}
use Rattle.qtc_job.proofs.literals.read_literal.Given as goal

abbrev pub invariant-loop-rest : goal.invariant-loop-rest
invariant-loop-rest l = literal_of l.word ≡ after_text l.text (literal_of l.rest)

abbrev pub decreases-loop-rest : goal.decreases-loop-rest
decreases-loop-rest l = length l.rest

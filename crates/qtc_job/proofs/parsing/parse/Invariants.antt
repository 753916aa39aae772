use Rattle.std.proofs.Common.{length}
use Rattle.qtc_base.specs.Lines.{lines}
use Rattle.qtc_job.proofs.ParseLemmas.{IsReadTo}
use Rattle.qtc_job.proofs.parsing.parse.Given as goal

abbrev pub invariant-loop-line : goal.invariant-loop-line
invariant-loop-line l = IsReadTo l.text l.lines l.reader l.number

abbrev pub decreases-loop-line : goal.decreases-loop-line
decreases-loop-line l = length (lines l.lines)

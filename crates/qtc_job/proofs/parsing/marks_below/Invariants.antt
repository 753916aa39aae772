use Rattle.std.proofs.Common.{length}
use Rattle.qtc_base.specs.Lines.{lines}
use Rattle.qtc_job.specs.Lines.{lines_of}
use Rattle.qtc_job.proofs.MarkLemmas.{IsMarkedTo}
use Rattle.qtc_job.proofs.parsing.marks_below.Given as goal

abbrev pub invariant-loop-line : goal.invariant-loop-line
invariant-loop-line l = IsMarkedTo (lines_of l.initial.left) (lines_of l.left) l.initial.marks l.marks

abbrev pub decreases-loop-line : goal.decreases-loop-line
decreases-loop-line l = length (lines l.left)

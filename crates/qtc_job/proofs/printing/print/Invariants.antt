use Rattle.std.proofs.Common.{◌≡◌, ◌++◌, length}
use Rattle.std.specs.List.{flat_map}
use Rattle.qtc_job_file.specs.Canonical.{canonical, job_lines, names_of}
use Rattle.qtc_job.specs.Tails.{ended_lines}
use Rattle.qtc_job.proofs.printing.print.Given as goal

abbrev pub invariant-loop-left : goal.invariant-loop-left
invariant-loop-left l = l.text ++ ended_lines (flat_map (job_lines (names_of l.jobs)) l.left) ≡ canonical l.file

abbrev pub decreases-loop-left : goal.decreases-loop-left
decreases-loop-left l = length l.left

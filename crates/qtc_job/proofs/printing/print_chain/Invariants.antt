use Rattle.std.proofs.Common.{◌≡◌, ◌++◌, length, map}
use Rattle.qtc_job_file.specs.Canonical.{chain_words}
use Rattle.qtc_job.specs.Tails.{ended_lines}
use Rattle.qtc_job.proofs.printing.print_chain.Given as goal

abbrev pub invariant-loop-left : goal.invariant-loop-left
invariant-loop-left l = l.fn.into ++ ended_lines (map chain_words l.steps) ≡ l.into ++ ended_lines (map chain_words l.left)

abbrev pub decreases-loop-left : goal.decreases-loop-left
decreases-loop-left l = length l.left

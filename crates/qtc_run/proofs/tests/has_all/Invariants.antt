use Rattle.std.proofs.Common.{take}
use Rattle.qtc_run.specs.Loaded.{HasAll}
use Rattle.qtc_run.specs.Sources.{names_of_all}
use Rattle.qtc_run.proofs.tests.has_all.Given as goal

abbrev pub invariant-loop-job : goal.invariant-loop-job
invariant-loop-job l = HasAll l.loaded (names_of_all (take l.job-index l.file.jobs))

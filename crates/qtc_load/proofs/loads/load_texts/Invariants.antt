use Rattle.std.proofs.Common.{take, []}
use Rattle.qtc_job_file.specs.Texts.{names_of_all}
use Rattle.qtc_load.specs.LoadSteps.{LoadsMore}
use Rattle.qtc_load.proofs.loads.load_texts.Given as goal

abbrev pub invariant-loop-job : goal.invariant-loop-job
invariant-loop-job g l =
    LoadsMore (names_of_all (take l.job-index l.file.jobs)) [] (g.T.Texts.source l.fn.texts) l.shelf.loaded (g.T.Texts.source l.texts)

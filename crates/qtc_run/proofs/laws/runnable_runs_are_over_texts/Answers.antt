use Rattle.qtc_run.proofs.TextRuns.{over-texts}
use Rattle.qtc_run.proofs.laws.runnable_runs_are_over_texts.Goals as goal

pub returns : goal.returns
returns c = over-texts

use Rattle.qtc_run.proofs.SequentialLemmas.{calls-once}
use Rattle.qtc_run.proofs.laws.calls_are_once.Goals as goal

pub returns : goal.returns
returns c = calls-once

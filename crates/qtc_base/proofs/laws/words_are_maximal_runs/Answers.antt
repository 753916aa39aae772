use Rattle.qtc_base.proofs.WordLaws.{words-are}
use Rattle.qtc_base.proofs.laws.words_are_maximal_runs.Goals as goal

pub returns : goal.returns
returns c = words-are

use Rattle.qtc_events.proofs.JournalLemmas.{journals_end}
use Rattle.qtc_events.proofs.laws.journals_end.Goals as goal

pub returns : goal.returns
returns c = journals_end

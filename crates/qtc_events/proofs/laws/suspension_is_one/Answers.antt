use Rattle.qtc_events.proofs.JournalLemmas.{suspension_is_one}
use Rattle.qtc_events.proofs.laws.suspension_is_one.Goals as goal

pub returns : goal.returns
returns c = suspension_is_one

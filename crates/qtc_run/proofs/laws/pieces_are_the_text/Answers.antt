use Rattle.qtc_run.proofs.PieceLemmas.{pieces-are}
use Rattle.qtc_run.proofs.laws.pieces_are_the_text.Goals as goal

pub returns : goal.returns
returns c = pieces-are

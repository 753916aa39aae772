use Rattle.qtc_run.proofs.BlockLemmas.{blocks-go-on}
use Rattle.qtc_run.proofs.laws.blocks_go_from_begin_to_begin.Goals as goal

pub returns : goal.returns
returns c = blocks-go-on

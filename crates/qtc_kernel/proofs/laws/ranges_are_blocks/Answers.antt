use Rattle.qtc_kernel.proofs.Lengths.{ranges_are_blocks}
use Rattle.qtc_kernel.proofs.laws.ranges_are_blocks.Goals as goal

pub returns : goal.returns
returns c = ranges_are_blocks

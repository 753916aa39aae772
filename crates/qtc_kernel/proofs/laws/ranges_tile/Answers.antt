use Rattle.qtc_kernel.proofs.Counted.{ranges_tile}
use Rattle.qtc_kernel.proofs.laws.ranges_tile.Goals as goal

pub returns : goal.returns
returns c = ranges_tile

use Rattle.std.proofs.Common.{length}
use Rattle.qtc_inplace.proofs.mapping.+map_in_turn.Given as goal

abbrev pub decreases-map_in_turn : goal.decreases-map_in_turn
decreases-map_in_turn g l = length l.list.now

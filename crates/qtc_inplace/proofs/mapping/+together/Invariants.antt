use Rattle.std.proofs.Common.{◌+◌, ◌-◌, ◌*◌, length}
use Rattle.qtc_inplace.proofs.mapping.+together.Given as goal

abbrev pub decreases-map_together : goal.decreases-map_together
decreases-map_together g l = 4 * length l.functions.now

abbrev pub decreases-map_both : goal.decreases-map_both
decreases-map_both g l = 4 * (length l.low.now + length l.high.now) - 1

abbrev pub decreases-map_both-map_front : goal.decreases-map_both-map_front
decreases-map_both-map_front g l = 4 * length l.low.now + 1

abbrev pub decreases-map_both-map_back : goal.decreases-map_both-map_back
decreases-map_both-map_back g l = 4 * length l.high.now + 1

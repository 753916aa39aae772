use Rattle.std.proofs.Common.{◌+◌, ◌-◌, ◌*◌, length}
use Rattle.qtc_inplace.proofs.spreading.+spread.Given as goal

abbrev pub decreases-take_together : goal.decreases-take_together
decreases-take_together g l = 4 * length l.functions.now

abbrev pub decreases-take_both : goal.decreases-take_both
decreases-take_both g l = 4 * (length l.low.now + length l.high.now) - 1

abbrev pub decreases-take_both-take_front : goal.decreases-take_both-take_front
decreases-take_both-take_front g l = 4 * length l.low.now + 1

abbrev pub decreases-take_both-take_back : goal.decreases-take_both-take_back
decreases-take_both-take_back g l = 4 * length l.high.now + 1

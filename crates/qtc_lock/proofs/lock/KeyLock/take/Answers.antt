use Rattle.std.proofs.Common.{rules}
use Rattle.qtc_lock.proofs.Steps.{arrives}
use Rattle.qtc_lock.proofs.lock.KeyLock.take.Goals as goal

pub swap_new_seat-found-requires : goal.swap_new_seat-found-requires
swap_new_seat-found-requires g c = (search rules, arrives g.S.Keyed.fits _ _)

use Rattle.qtc_lock.specs.Lock.{IsIdle}
use Rattle.qtc_lock.proofs.lock.KeyLock.wait.Given as goal

abbrev pub invariant-loop : goal.invariant-loop
invariant-loop g l = record {
  can : (goal.iterator-loop g).can_next l.iterator';
  finite : (goal.iterator-loop g).is_finite l.iterator';
  idle : IsIdle l.self l.seat;
}

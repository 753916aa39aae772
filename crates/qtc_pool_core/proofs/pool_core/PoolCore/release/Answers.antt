use Rattle.std.proofs.Common.{◌<◌, arith, lt-ltb}
use Rattle.qtc_pool_core.specs.declared.entries.PoolEntry.TheVariants.{Released}
use Rattle.qtc_pool_core.proofs.Replay.{entered, may_stand, replays-step}
use Rattle.qtc_pool_core.proofs.pool_core.PoolCore.release.Goals as goal

pub invariant_of-self-2 : goal.invariant_of-self-2
invariant_of-self-2 g c =
    let inv = c.self.invariant in
    let some : 0 < c.self.inside.reserved = omega arith in
    record {
      replays = replays-step _ _ _ _ _ Released inv.replays (may_stand _ _ (lt-ltb 0 c.self.inside.reserved some)) (entered _ _ _ _ c.push_reserved.ensures.items c.in-Ok.ensures.items);
      began = inv.began;
      few = inv.few;
      most = inv.most;
      bounded = omega (arith, inv.bounded);
      starts = inv.starts;
      entries = (let owes = rw (← c.self.view_is) at c.owed-owed.ensures in omega (arith, inv.entries, owes, c.in-Ok.ensures.ok, c.push_reserved.ensures.len, c.push_reserved.ensures.capacity));
      threads = inv.threads;
    }

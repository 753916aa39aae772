use Rattle.std.proofs.Common.{◌<◌, arith, lt-ltb}
use Rattle.qtc_base.specs.Limits.{most_reserved}
use Rattle.qtc_pool_core.specs.declared.entries.PoolEntry.TheVariants.{Reserved}
use Rattle.qtc_pool_core.proofs.Replay.{entered, may_stand, replays-step}
use Rattle.qtc_pool_core.proofs.pool_core.PoolCore.reserve.Goals as goal

pub invariant_of-self-2 : goal.invariant_of-self-2
invariant_of-self-2 g c =
    let inv = c.self.invariant in
    let below : c.self.inside.reserved < most_reserved = omega (arith, inv.bounded) in
    record {
      replays = replays-step _ _ _ _ _ Reserved inv.replays (may_stand _ _ (lt-ltb c.self.inside.reserved most_reserved below)) (entered _ _ _ _ c.push_reserved.ensures.items c.in-Ok.ensures.items);
      began = inv.began;
      few = inv.few;
      most = inv.most;
      bounded = omega (arith, below);
      starts = inv.starts;
      entries = (let owes = rw (← c.self.view_is) at c.owed-owed.ensures in omega (arith, inv.entries, owes, c.in-Ok.ensures.ok, c.push_reserved.ensures.len, c.push_reserved.ensures.capacity));
      threads = inv.threads;
    }

use Rattle.std.proofs.Common.{arith, lt-ltb, le-leb}
use Rattle.std.proofs.lemmas.Bool.{and_from}
use Rattle.qtc_base.specs.Limits.{most_threads}
use Rattle.qtc_pool_core.specs.declared.entries.PoolEntry.TheVariants.{MaxSet}
use Rattle.qtc_pool_core.proofs.Replay.{entered, may_stand, replays-step}
use Rattle.qtc_pool_core.proofs.pool_core.PoolCore.set_max.Goals as goal

pub invariant_of-self-2 : goal.invariant_of-self-2
invariant_of-self-2 g c =
    let inv = c.self.invariant in
    let most = c.args.max in
    record {
      replays = replays-step _ _ _ _ _ (MaxSet most) inv.replays (may_stand _ _ (and_from _ _ (lt-ltb 0 most c.requires.0) (le-leb most most_threads c.requires.1))) (entered _ _ _ _ c.push_reserved.ensures.items c.in_ok-reserve_entries.ensures.items);
      began = inv.began;
      few = inv.few;
      most = c.requires;
      bounded = inv.bounded;
      starts = inv.starts;
      entries = (let owes = rw (← c.self.view_is) at c.owed-owed.ensures in omega (arith, inv.entries, owes, c.in_ok-reserve_entries.ensures.ok, c.push_reserved.ensures.len, c.push_reserved.ensures.capacity));
      threads = inv.threads;
    }

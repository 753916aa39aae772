use Rattle.std.proofs.Common.{ap, sym, arith, length, refl}
use Rattle.qtc_pool_core.specs.declared.entries.PoolEntry.TheVariants.{TookBack}
use Rattle.qtc_pool_core.specs.Slots.{tasks_in}
use Rattle.qtc_pool_core.proofs.Replay.{fewer_wait, replays-step, step-took_back}
use Rattle.qtc_pool_core.proofs.pool_core.PoolCore.try_take.Goals as goal

pub invariant_of-self-2 : goal.invariant_of-self-2
invariant_of-self-2 g c =
    let inv = c.self.invariant in
    let id = c.args.id in
    let queue = tasks_in c.self.inside.queue.slots in
    let work = c.in-Some.task.work in
    let waits = sym c.in-Some.ensures.work in
    let fewer = ap length c.in-Some.ensures.rest in
    let less = fewer_wait id queue work waits in
    record {
      replays = replays-step _ _ _ _ _ (TookBack id) inv.replays (step-took_back _ _ _ _ _ id work waits c.in-Some.ensures.rest) c.push_reserved.ensures.items;
      began = inv.began;
      few = inv.few;
      most = inv.most;
      bounded = inv.bounded;
      starts = omega (arith, inv.starts, c.in-Some.ensures.room);
      entries = omega (arith, fewer, less, inv.entries, c.push_reserved.ensures.len, c.push_reserved.ensures.capacity);
      threads = λ some. inv.threads (omega (arith, fewer, less));
    }

pub returns-clause-took : goal.returns-clause-took
returns-clause-took g c =
    rw (← c.self.view_is) (record {
      step = step-took_back _ _ _ _ _ c.args.id c.in-Some.task.work (sym c.in-Some.ensures.work) c.in-Some.ensures.rest;
      queue = c.in-Some.ensures.rest;
      journal = c.push_reserved.ensures.items;
      first = refl;
    })

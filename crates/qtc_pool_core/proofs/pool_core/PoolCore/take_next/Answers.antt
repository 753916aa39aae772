use Rattle.std.proofs.Common.{◌≡◌, ◌∷◌, [], ◌∙◌, ap, sym, arith, length, length-append, refl, true}
use Rattle.qtc_pool_core.specs.declared.entries.PoolEntry.TheVariants.{Took}
use Rattle.qtc_pool_core.specs.Core.{tickets}
use Rattle.qtc_pool_core.specs.Machine.{may_run}
use Rattle.qtc_pool_core.specs.Slots.{tasks_in}
use Rattle.qtc_pool_core.proofs.Replay.{few_run, fewer_wait, replays-step, state, step-took}
use Rattle.qtc_pool_core.proofs.pool_core.PoolCore.take_next.Goals as goal

pub invariant_of-self-2 : goal.invariant_of-self-2
invariant_of-self-2 g c =
    let inv = c.self.invariant in
    let task = c.in-Some.task in
    let queue = tasks_in c.self.inside.queue.slots in
    let may : may_run (state (tickets queue) c.self.inside.running.items c.self.inside.reserved c.self.inside.max) ≡ true = rw (← c.self.view_is) at (sym c.may_run.ensures ∙ c.if-not-may_run.false) in
    let waits = c.in-Some.ensures.work in
    let fewer = ap length c.in-Some.ensures.rest in
    let less = fewer_wait task.id queue task.work waits in
    let more = ap length c.push_reserved.ensures.items ∙ length-append c.self.inside.running.items (task.id ∷ []) in
    let few = few_run (tickets queue) c.self.inside.running.items c.self.inside.reserved c.self.inside.max inv.most.1 may in
    record {
      replays = replays-step _ _ _ _ _ (Took task.id) inv.replays (step-took _ _ _ _ _ _ task (sym c.in-Some.ensures.head) may c.in-Some.ensures.rest c.push_reserved.ensures.items) c.push_reserved-2.ensures.items;
      began = inv.began;
      few = omega (arith, few, more);
      most = inv.most;
      bounded = inv.bounded;
      starts = omega (arith, inv.starts, c.in-Some.ensures.room);
      entries = omega (arith, fewer, less, more, inv.entries, c.push_reserved-2.ensures.len, c.push_reserved-2.ensures.capacity);
      threads = λ some. omega (arith, inv.threads (omega (arith, fewer, less)), c.push_reserved.ensures.capacity);
    }

pub returns-clause-took : goal.returns-clause-took
returns-clause-took g c =
    let task = c.in-Some.task in
    let queue = tasks_in c.self.inside.queue.slots in
    let may : may_run (state (tickets queue) c.self.inside.running.items c.self.inside.reserved c.self.inside.max) ≡ true = rw (← c.self.view_is) at (sym c.may_run.ensures ∙ c.if-not-may_run.false) in
    rw (← c.self.view_is) (record {
      step = step-took _ _ _ _ _ _ task (sym c.in-Some.ensures.head) may c.in-Some.ensures.rest c.push_reserved.ensures.items;
      queue = c.in-Some.ensures.rest;
      journal = c.push_reserved-2.ensures.items;
      first = refl;
    })

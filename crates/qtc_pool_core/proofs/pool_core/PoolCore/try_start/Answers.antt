use Rattle.std.proofs.Common.{◌≡◌, ◌++◌, ◌∷◌, [], ◌∙◌, ap, sym, arith, length, length-append}
use Rattle.qtc_pool_core.specs.declared.entries.PoolEntry.TheVariants.{Tried}
use Rattle.qtc_pool_core.specs.Core.{tickets}
use Rattle.qtc_pool_core.specs.Slots.{tasks_in}
use Rattle.qtc_pool_core.proofs.Replay.{entered, few_run, replays-step, step-tried}
use Rattle.qtc_pool_core.proofs.pool_core.PoolCore.try_start.Goals as goal

pub invariant_of-self-2 : goal.invariant_of-self-2
invariant_of-self-2 g c =
    let inv = c.self.invariant in
    let id = c.args.id in
    let running = c.self.inside.running.items in
    let free = rw (← c.self.view_is) at (sym c.is_known.ensures ∙ c.if-is_known.false) in
    let may = rw (← c.self.view_is) at (sym c.may_run.ensures ∙ c.if-not-may_run.false) in
    let owes = rw (← c.self.view_is) at c.owed-owed.ensures in
    let runs : c.push_reserved.new.self.items ≡ running ++ id ∷ [] = c.push_reserved.ensures.items ∙ ap (λ rs. rs ++ id ∷ []) c.in-Ok-reserve_threads.ensures.items in
    let more = ap length runs ∙ length-append running (id ∷ []) in
    let few = few_run (tickets (tasks_in c.self.inside.queue.slots)) running c.self.inside.reserved c.self.inside.max inv.most.1 may in
    record {
      replays = replays-step _ _ _ _ _ (Tried id) inv.replays (step-tried _ _ _ _ _ id free may runs) (entered _ _ _ _ c.push_reserved-2.ensures.items c.in-Ok.ensures.items);
      began = inv.began;
      few = omega (arith, few, more);
      most = inv.most;
      bounded = inv.bounded;
      starts = inv.starts;
      entries = omega (arith, more, owes, c.in-Ok.ensures.ok, c.push_reserved-2.ensures.len, c.push_reserved-2.ensures.capacity);
      threads = λ some. omega (arith, c.in-Ok-reserve_threads.ensures.ok, c.push_reserved.ensures.capacity);
    }

use Rattle.std.proofs.Common.{◌≡◌, ℕ, ◌≤◌, ◌++◌, List, Option, Some, ◌∙◌, ap, sym, arith, length, length-append, subst}
use Rattle.std.proofs.lemmas.List.{length-map}
use Rattle.qtc_pool_core.specs.declared.entries.PoolEntry.TheVariants.{TookBack}
use Rattle.qtc_pool_core.specs.declared.task.Task.{Task}
use Rattle.qtc_pool_core.specs.Core.{tickets}
use Rattle.qtc_pool_core.specs.Runs.{run_of}
use Rattle.qtc_pool_core.specs.Machine.{empty}
use Rattle.qtc_pool_core.specs.Slots.{holders, tasks_in}
use Rattle.qtc_pool_core.specs.Steps.{taken_back}
use Rattle.qtc_pool_core.proofs.Cleared.{replays-clear}
use Rattle.qtc_pool_core.proofs.Replay.{state}
use Rattle.qtc_pool_core.proofs.pool_core.PoolCore.clear.Goals as goal

pub invariant_of-self : goal.invariant_of-self
invariant_of-self g c =
    let inv = c.self.invariant in
    let slots = c.self.inside.queue.slots in
    let running = c.self.inside.running.items in
    let once : (id : ℕ) → holders id slots ≤ 1 = λ id. subst (λ (xs : List (Option (Task g.row.K.Denot))). holders id xs ≤ 1) c.slots.ensures.slots (c.slots.ensures.once id) in
    let items : c.take_back.new.journal.items ≡ c.self.inside.journal.items ++ taken_back (tasks_in slots) = c.take_back.ensures.items ∙ ap (λ (xs : List (Option (Task g.row.K.Denot))). c.self.inside.journal.items ++ taken_back (tasks_in xs)) c.slots.ensures.slots in
    let cleared = replays-clear c.self.inside.first c.self.inside.journal.items c.take_back.new.journal.items slots running c.self.inside.reserved c.self.inside.max once inv.replays items in
    let len = ap length items ∙ length-append c.self.inside.journal.items (taken_back (tasks_in slots)) in
    let none = ap length c.clear.ensures.tasks in
    let count = length-map (tasks_in slots) (λ (task : Task g.row.K.Denot). TookBack task.id) in
    record {
      replays = subst (λ (tasks : List (Task g.row.K.Denot)). run_of (empty c.self.inside.first) c.take_back.new.journal.items ≡ Some (state (tickets tasks) running c.self.inside.reserved c.self.inside.max)) (sym c.clear.ensures.tasks) cleared;
      began = inv.began;
      few = inv.few;
      most = inv.most;
      bounded = inv.bounded;
      starts = omega (arith, inv.starts, c.clear.ensures.room);
      entries = omega (arith, len, none, count, inv.entries, c.take_back.ensures.capacity, c.take_back.new.journal.ok.0, c.self.inside.journal.ok.0);
      threads = λ some. inv.threads (omega (arith, none));
    }

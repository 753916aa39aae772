use Rattle.std.proofs.Common.{◌≡◌, ◌++◌, ◌∷◌, [], ◌∙◌, ap, arith, length, length-append, refl, rules}
use Rattle.std.proofs.lemmas.Int.{to_z-of_z}
use mir.Val.{SFits}
use mir.Syntax.{w32}
use Rattle.qtc_pool_core.specs.declared.entries.PoolEntry.TheVariants.{Started}
use Rattle.qtc_pool_core.specs.Slots.{tasks_in}
use Rattle.qtc_pool_core.proofs.Places.{tasks-push}
use Rattle.qtc_pool_core.proofs.Replay.{replays-step, step-started}
use Rattle.qtc_pool_core.proofs.pool_core.PoolCore.enter.Goals as goal

pub invariant_of-self : goal.invariant_of-self
invariant_of-self g c =
    let inv = c.self.invariant in
    let task = c.args.task in
    let fits : SFits w32 task.priority = search rules in
    let slots = c.self.inside.queue.slots in
    let after : tasks_in c.push.new.self.slots ≡ tasks_in slots ++ task ∷ [] = ap tasks_in c.push.ensures.slots ∙ tasks-push slots task in
    let more = ap length after ∙ length-append (tasks_in slots) (task ∷ []) in
    let free = rw (← c.self.view_is) at c.requires.new in
    let room = rw (← c.self.view_is) at c.requires.room in
    let items : c.push_reserved.new.self.items ≡ c.self.inside.journal.items ++ Started task.id task.priority ∷ [] = rw (to_z-of_z w32 task.priority fits) at c.push_reserved.ensures.items in
    record {
      replays = replays-step _ _ _ _ _ (Started task.id task.priority) inv.replays (step-started _ _ _ _ _ task free after) items;
      began = inv.began;
      few = inv.few;
      most = inv.most;
      bounded = inv.bounded;
      starts = omega (arith, inv.starts, c.push.ensures.room);
      entries = omega (arith, more, room, inv.entries, c.push_reserved.ensures.len, c.push_reserved.ensures.capacity);
      threads = λ some. inv.threads (omega (arith, room));
    }

pub returns-clause-started : goal.returns-clause-started
returns-clause-started g c =
    let task = c.args.task in
    let fits : SFits w32 task.priority = search rules in
    let after : tasks_in c.push.new.self.slots ≡ tasks_in c.self.inside.queue.slots ++ task ∷ [] = ap tasks_in c.push.ensures.slots ∙ tasks-push c.self.inside.queue.slots task in
    let free = rw (← c.self.view_is) at c.requires.new in
    let items : c.push_reserved.new.self.items ≡ c.self.inside.journal.items ++ Started task.id task.priority ∷ [] = rw (to_z-of_z w32 task.priority fits) at c.push_reserved.ensures.items in
    rw (← c.self.view_is) (record {
      step = step-started _ _ _ _ _ task free after;
      queue = after;
      journal = items;
      first = refl;
    })

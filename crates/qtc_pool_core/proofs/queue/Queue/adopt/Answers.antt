use Rattle.std.proofs.Common.{[], ◌∷◌, List, Option, ap, ◌∙◌, arith, length, length-append}
use Rattle.std.specs.Vec.Iter.{into_iter_items}
use Rattle.qtc_pool_core.specs.declared.task.Task.{Task}
use Rattle.qtc_pool_core.specs.Slots.{tasks_in}
use Rattle.qtc_pool_core.proofs.Adopted.{moves-new, moves-next, moves-start}
use Rattle.qtc_pool_core.proofs.Places.{tasks-push}
use Rattle.qtc_pool_core.proofs.queue.Queue.adopt.Goals as goal

pub loop-slot-init : goal.loop-slot-init
loop-slot-init g c = record {
  moves = moves-start c.args.slots.items c.args.self.now.slots (into_iter_items c.into_iter-slot-iterator.result) c.into_iter-slot-iterator.ensures.into_iter_gives.0 c.requires.empty c.requires.once;
  room = omega (arith, ap length c.requires.empty);
}

pub push-requires-clause-new : goal.push-requires-clause-new
push-requires-clause-new g c =
    let rest = into_iter_items c.next.new.self in
    let next = c.in-Some.ensures.steps.0 ∙ ap (λ (slot : Option (Task g.row.K.Denot)). slot ∷ rest) c.in-Some-slot.is in
    moves-new c.args.slots.items c.loop-slot.self.slots (into_iter_items c.loop-slot.slot-iterator) rest c.in-Some-slot.task c.loop-slot.invariant.moves next

pub loop-slot-preserved-in-Some-slot : goal.loop-slot-preserved-in-Some-slot
loop-slot-preserved-in-Some-slot g c =
    let rest = into_iter_items c.next.new.self in
    let next = c.in-Some.ensures.steps.0 ∙ ap (λ (slot : Option (Task g.row.K.Denot)). slot ∷ rest) c.in-Some-slot.is in
    let more = ap (λ (slots : List (Option (Task g.row.K.Denot))). length (tasks_in slots)) c.push.ensures.slots ∙ ap length (tasks-push c.loop-slot.self.slots c.in-Some-slot.task) ∙ length-append (tasks_in c.loop-slot.self.slots) (c.in-Some-slot.task ∷ []) in
    record {
      moves = moves-next c.args.slots.items c.loop-slot.self.slots (into_iter_items c.loop-slot.slot-iterator) rest c.push.new.self.slots c.in-Some-slot.task c.loop-slot.invariant.moves next c.push.ensures.slots;
      room = omega (arith, more, c.push.ensures.room, c.loop-slot.invariant.room);
    }

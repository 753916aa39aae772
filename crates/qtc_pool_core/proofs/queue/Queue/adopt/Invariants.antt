use Rattle.std.proofs.Common.{◌≡◌, ◌+◌, length}
use Rattle.std.specs.Vec.Iter.{into_iter_items}
use Rattle.qtc_pool_core.specs.Slots.{tasks_in}
use Rattle.qtc_pool_core.proofs.Adopted.{Moves}
use Rattle.qtc_pool_core.proofs.queue.Queue.adopt.Given as goal

abbrev pub invariant-loop-slot : goal.invariant-loop-slot
invariant-loop-slot g l = record {
  moves : Moves l.fn.slots.items l.self.slots (into_iter_items l.slot-iterator);
  room : l.self.room + length (tasks_in l.self.slots) ≡ l.fn.self.room;
}

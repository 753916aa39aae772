use Rattle.std.proofs.Common.{◌≡◌, ◌++◌, take, vec_capacity}
use Rattle.qtc_pool_core.specs.Steps.{taken_back}
use Rattle.qtc_pool_core.specs.Slots.{tasks_in}
use Rattle.qtc_pool_core.proofs.pool_core.take_back.Given as goal

abbrev pub invariant-loop-slot : goal.invariant-loop-slot
invariant-loop-slot g l = record {
  items : l.journal.items ≡ l.fn.journal.items ++ taken_back (tasks_in (take l.slot-index l.slots));
  capacity : vec_capacity l.journal ≡ vec_capacity l.fn.journal;
}

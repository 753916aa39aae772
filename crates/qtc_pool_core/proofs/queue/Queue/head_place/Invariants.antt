use Rattle.std.proofs.Common.{◌≡◌}
use Rattle.std.specs.BinaryHeap.{heap_len}
use Rattle.qtc_pool_core.specs.Inside.{IsLaid, row_of}
use Rattle.qtc_pool_core.proofs.queue.Queue.head_place.Given as goal

abbrev pub invariant-loop-place : goal.invariant-loop-place
invariant-loop-place g l =
    (row_of l.self-inside.slots ≡ l.fn.self) × IsLaid l.self-inside.slots l.self-inside.places l.self-inside.ranks l.self-inside.count

abbrev pub decreases-loop-place : goal.decreases-loop-place
decreases-loop-place g l = heap_len l.self-inside.ranks

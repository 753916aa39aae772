use Rattle.std.proofs.Common.{◌≡◌, ◌++◌, ◌≤◌, map}
use Rattle.qtc_store.specs.Batches.{greatest_end}
use Rattle.qtc_store.specs.Inside.{waiting_in}
use Rattle.qtc_store.specs.Results.{result_ranges}
use Rattle.qtc_base.specs.Ranges.{bounds_of}
use Rattle.qtc_store.proofs.PendingLemmas.{batch_at}
use Rattle.qtc_store.proofs.pending.Pending.append_ranges.Given as goal

abbrev pub invariant-loop-batch : goal.invariant-loop-batch
invariant-loop-batch g l =
    (map bounds_of l.ranges ++ result_ranges (map batch_at l.batch-iterator) ≡ map bounds_of l.initial.ranges ++ result_ranges (waiting_in l.fn.self)) × (greatest_end (map batch_at l.batch-iterator) ≤ 8388608)

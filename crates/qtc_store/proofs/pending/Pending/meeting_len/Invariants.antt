use Rattle.std.proofs.Common.{◌≡◌, ◌+◌, ◌≤◌, length, map}
use Rattle.qtc_store.specs.Batches.{greatest_end}
use Rattle.qtc_store.specs.Inside.{waiting_in}
use Rattle.qtc_store.specs.Visible.{meeting}
use Rattle.qtc_store.proofs.PendingLemmas.{batch_at}
use Rattle.qtc_store.proofs.pending.Pending.meeting_len.Given as goal

abbrev pub invariant-loop-batch : goal.invariant-loop-batch
invariant-loop-batch g l =
    (l.len + length (meeting l.end (map batch_at l.batch-iterator)) ≡ length (meeting l.place (waiting_in l.fn.self))) × (greatest_end (map batch_at l.batch-iterator) ≤ 8388608) × (l.len + length l.batch-iterator ≡ length l.fn.self.batches.entries)

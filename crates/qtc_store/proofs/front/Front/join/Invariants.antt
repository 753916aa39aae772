use Rattle.std.proofs.Common.{◌≡◌, ◌+◌, ◌≤◌, ◌++◌, length, All}
use Rattle.std.specs.Vec.{vec_len, vec_capacity}
use Rattle.qtc_store.specs.Batches.{greatest_end}
use Rattle.qtc_store.specs.Inside.{met_in, waiting_in, IsFront, IsKeyed}
use Rattle.qtc_store.specs.Visible.{meeting}
use Rattle.qtc_store.proofs.PendingLemmas.{IsFew}
use Rattle.qtc_store.proofs.front.Front.join.Given as goal

abbrev pub invariant-loop-batch : goal.invariant-loop-batch
invariant-loop-batch g l =
    record {
      laid : IsFront l.self;
      keyed : IsKeyed l.pending;
      room : vec_len l.self.met + length (meeting l.self.place (waiting_in l.pending)) ≤ vec_capacity l.self.met;
      few : All IsFew (waiting_in l.pending);
      bounded : greatest_end (waiting_in l.pending) ≤ 8388608;
      all : met_in l.self ++ waiting_in l.pending ≡ met_in l.fn.self ++ waiting_in l.fn.pending;
    }

abbrev pub decreases-loop-batch : goal.decreases-loop-batch
decreases-loop-batch g l = length (waiting_in l.pending)

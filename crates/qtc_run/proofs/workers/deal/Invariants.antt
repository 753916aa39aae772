use Rattle.std.proofs.Common.{◌≡◌, List, length, replicate, take, drop}
use Rattle.std.specs.Vec.Iter.{into_iter_items}
use Rattle.qtc_run.specs.Rounds.{each_times}
use Rattle.qtc_run.proofs.workers.deal.Given as goal

abbrev pub invariant-loop : goal.invariant-loop
invariant-loop g l = record {
  count : length l.workers.items ≡ l.number;
  dealt : (all : List g.row.D.Denot) → length all ≡ l.jobs → l.fn.desks.items ≡ each_times l.number all →
      (into_iter_items l.desks ≡ each_times l.number (drop l.counter all))
      × (l.workers.items ≡ replicate l.number (take l.counter all));
}

use Rattle.std.proofs.Common.{◌≡◌, List, length, replicate, take, drop}
use Rattle.qtc_run.specs.Rounds.{each_times}
use Rattle.qtc_run.proofs.workers.gather.Given as goal

abbrev pub invariant-loop : goal.invariant-loop
invariant-loop g l = record {
  count : length l.workers.items ≡ length l.fn.workers.items;
  gathered : (all : List g.row.D.Denot) → length all ≡ l.jobs → l.fn.workers.items ≡ replicate (length l.fn.workers.items) all →
      (l.desks.items ≡ each_times (length l.fn.workers.items) (take l.counter all))
      × (l.workers.items ≡ replicate (length l.fn.workers.items) (drop l.counter all));
}

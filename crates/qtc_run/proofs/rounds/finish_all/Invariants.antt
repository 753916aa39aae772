use Rattle.std.proofs.Common.{◌≡◌, take, drop}
use Rattle.std.specs.Vec.Iter.{into_iter_items}
use Rattle.qtc_run.specs.Pairing.{EachPair}
use Rattle.qtc_run.specs.Rounds.{HasDone, each_times}
use Rattle.qtc_run.proofs.rounds.finish_all.Given as goal

abbrev pub invariant-loop-engine : goal.invariant-loop-engine
invariant-loop-engine g l = record {
  done : EachPair (HasDone g.F.ItemFn.value) (take l.engine-index l.engines) l.finished.items;
  left : into_iter_items l.bound ≡ each_times l.workers (drop l.engine-index l.engines);
}

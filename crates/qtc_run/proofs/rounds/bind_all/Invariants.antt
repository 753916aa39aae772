use Rattle.std.proofs.Common.{◌≡◌, take, drop}
use Rattle.std.specs.Vec.Iter.{into_iter_items}
use Rattle.qtc_run.specs.Pairing.{EachPair}
use Rattle.qtc_run.specs.Rounds.{IsFree, each_times}
use Rattle.qtc_run.proofs.rounds.bind_all.Given as goal

abbrev pub invariant-loop-engine : goal.invariant-loop-engine
invariant-loop-engine g l = record {
  desks : EachPair (IsFree g.F.ItemFn.value g.F.ItemFn.called) (each_times l.workers (drop l.engine-index l.engines)) (into_iter_items l.desks);
  bound : l.bound.items ≡ each_times l.workers (take l.engine-index l.engines);
}

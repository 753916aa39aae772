use Rattle.std.proofs.Common.{◌≡◌, ◌++◌, drop, replicate}
use Rattle.std.specs.Vec.Iter.{into_iter_items}
use Rattle.qtc_run.proofs.rounds.bind_row.Given as goal

abbrev pub invariant-loop : goal.invariant-loop
invariant-loop g l = record {
  desks : into_iter_items l.desks ≡ drop l.counter (into_iter_items l.fn.desks);
  bound : l.bound.items ≡ l.fn.bound.items ++ replicate l.counter l.engine;
}

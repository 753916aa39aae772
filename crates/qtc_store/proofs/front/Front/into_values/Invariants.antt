use Rattle.std.proofs.Common.{◌≡◌, ◌++◌}
use Rattle.std.specs.List.{flat_map}
use Rattle.std.specs.Vec.Iter.{into_iter_items}
use Rattle.qtc_store.specs.Batches.{values_of}
use Rattle.qtc_store.specs.Inside.{batches_of, met_in}
use Rattle.qtc_store.proofs.front.Front.into_values.Given as goal

abbrev pub invariant-loop-batch : goal.invariant-loop-batch
invariant-loop-batch g l = l.all.items ++ flat_map values_of (batches_of (into_iter_items l.batch-iterator)) ≡ flat_map values_of (met_in l.fn.self)

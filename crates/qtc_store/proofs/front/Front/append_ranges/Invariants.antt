use Rattle.std.proofs.Common.{◌≡◌, ◌++◌, map, take}
use Rattle.qtc_store.specs.Inside.{batches_of}
use Rattle.qtc_store.specs.Results.{result_ranges}
use Rattle.qtc_base.specs.Ranges.{bounds_of}
use Rattle.qtc_store.proofs.front.Front.append_ranges.Given as goal

abbrev pub invariant-loop-met : goal.invariant-loop-met
invariant-loop-met g l = map bounds_of l.ranges ≡ map bounds_of l.initial.ranges ++ result_ranges (batches_of (take l.met-index l.self.met.items))

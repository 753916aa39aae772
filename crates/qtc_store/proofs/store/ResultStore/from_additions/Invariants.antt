use Rattle.std.proofs.Common.{◌≡◌}
use Rattle.qtc_store.specs.Batches.{in_order}
use Rattle.qtc_store.specs.Adds.{accepted_of}
use Rattle.qtc_store.proofs.store.ResultStore.from_additions.Given as goal

abbrev pub invariant-loop-addition : goal.invariant-loop-addition
invariant-loop-addition g l = l.store ≡ record { filter = l.fn.filter; batches = in_order (accepted_of l.yielded) }

use Rattle.std.proofs.Common.{◌≡◌, None}
use Rattle.std.specs.List.{AllWithin}
use Rattle.qtc_pool_core.proofs.queue.empty_all.Given as goal

abbrev pub invariant-loop-slot : goal.invariant-loop-slot
invariant-loop-slot g l = AllWithin (λ slot. slot ≡ None) l.slots 0 l.slot-index

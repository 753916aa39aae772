use Rattle.std.proofs.Common.{◌≡◌, ◌-◌, ◌++◌, List, length, replicate}
use Rattle.std.specs.Prelude.{All}
use Rattle.std.specs.Vec.Iter.{into_iter_items}
use Rattle.qtc_kernel.specs.EngineParts.{EngineParts}
use Rattle.qtc_run.specs.Rounds.{IsFree}
use Rattle.qtc_run.proofs.rounds.desks_at.Given as goal

abbrev pub invariant-loop : goal.invariant-loop
invariant-loop g l = (parts : EngineParts g.row.F.Denot) (rest : List (EngineParts g.row.F.Denot)) → into_iter_items l.fn.bound ≡ replicate l.count parts ++ rest →
    (length l.desks.items ≡ l.counter) × All (IsFree g.F.ItemFn.value g.F.ItemFn.called parts) l.desks.items
    × (into_iter_items l.bound ≡ replicate (l.count - l.counter) parts ++ rest)

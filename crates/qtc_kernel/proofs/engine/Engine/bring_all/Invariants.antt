use Rattle.std.proofs.Common.{◌≡◌, ◌++◌, List, All, IsTrue, length}
use Rattle.qtc_claim.specs.Counter.{IsGathered}
use Rattle.qtc_shared.specs.Passes.{Meets}
use Rattle.qtc_kernel.specs.EngineParts.{DeskState, IsDesk}
use Rattle.qtc_kernel.specs.Endings.{KnowsTheSame, functions_at, workers_at}
use Rattle.qtc_kernel.proofs.engine.Engine.bring_all.Given as goal

-- what is gathered and what is left are all
abbrev pub invariant-loop-pass : goal.invariant-loop-pass
invariant-loop-pass g l = record {
  same : KnowsTheSame l.fn.pass l.pass;
  counter : l.tally.of ≡ l.fn.tally.of;
  apart : IsGathered l.self.counter l.tally;
  workers : l.tally.workers ++ workers_at l.desks.items ≡ l.fn.tally.workers ++ workers_at l.fn.desks.items;
  pieces : l.tally.pieces ≡ l.fn.tally.pieces;
  functions : IsTrue l.has_room → l.functions.items ++ functions_at l.desks.items ≡ l.fn.functions.items ++ functions_at l.fn.desks.items;
  desks : All (IsDesk g.F.ItemFn.value g.F.ItemFn.called l.self) l.desks.items;
  met : (done : List (DeskState g.row.F.Denot)) × (l.fn.desks.items ≡ done ++ l.desks.items) × All (λ desk. Meets desk.pass l.fn.pass.known) done;
}

abbrev pub decreases-loop-pass : goal.decreases-loop-pass
decreases-loop-pass g l = length l.desks.items

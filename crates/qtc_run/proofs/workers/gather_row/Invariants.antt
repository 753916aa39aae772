use Rattle.std.proofs.Common.{◌≡◌, ◌-◌, ◌++◌, ◌∷◌, List, length, replicate}
use Rattle.qtc_run.proofs.workers.gather_row.Given as goal

abbrev pub invariant-loop-at : goal.invariant-loop-at
invariant-loop-at g l = record {
  count : length l.workers.items ≡ length l.fn.workers.items;
  gathered : (one : g.row.D.Denot) (rest : List g.row.D.Denot) →
      l.fn.workers.items ≡ replicate (length l.fn.workers.items) (one ∷ rest) →
      (l.desks.items ≡ l.fn.desks.items ++ replicate l.at one)
      × (l.workers.items ≡ replicate l.at rest ++ replicate (length l.fn.workers.items - l.at) (one ∷ rest));
}

use Rattle.std.proofs.Common.{◌≡◌, ◌-◌, ◌++◌, ◌∷◌, [], List, length, replicate}
use Rattle.std.specs.Vec.Iter.{into_iter_items}
use Rattle.qtc_run.proofs.workers.deal_row.Given as goal

abbrev pub invariant-loop-at : goal.invariant-loop-at
invariant-loop-at g l = record {
  count : length l.workers.items ≡ length l.fn.workers.items;
  dealt : (one : g.row.D.Denot) (done rest : List g.row.D.Denot) →
      into_iter_items l.fn.desks ≡ replicate (length l.fn.workers.items) one ++ rest →
      l.fn.workers.items ≡ replicate (length l.fn.workers.items) done →
      (into_iter_items l.desks ≡ replicate (length l.fn.workers.items - l.at) one ++ rest)
      × (l.workers.items ≡ replicate l.at (done ++ one ∷ []) ++ replicate (length l.fn.workers.items - l.at) done);
}

use Rattle.std.proofs.Common.{◌∷◌, [], ◌++◌, map, take, ap, sym, ◌∙◌, append_assoc, arith}
use Rattle.qtc_store.specs.Batches.{end_of}
use Rattle.qtc_store.specs.Inside.{batches_of}
use Rattle.qtc_store.specs.Results.{result_ranges}
use Rattle.qtc_base.specs.Ranges.{bounds_of}
use Rattle.qtc_store.proofs.FrontLemmas.{end_here, ranges_here}
use Rattle.qtc_store.proofs.front.Front.append_ranges.Goals as goal

pub overflow_add-begin : goal.overflow_add-begin
overflow_add-begin g c =
    let end = end_here c.args.self.now.met.items c.deref-met-items.result.now c.deref-met-items.ensures.value c.loop-met.met-index c.met-item.result c.loop-met-test.true c.met-item.is c.requires.met in
    omega (arith, end, c.requires.place, c.requires.bounded)

pub loop-met-preserved : goal.loop-met-preserved
loop-met-preserved g c =
    let m = c.met-item.result in
    let next = ranges_here c.args.self.now.met.items c.deref-met-items.result.now c.deref-met-items.ensures.value c.loop-met.met-index c.met-item.result c.loop-met-test.true c.met-item.is in
    c.in_ok-append_range.ensures
    ∙ ap (λ xs. xs ++ (m.batch.begin, end_of m.batch) ∷ []) c.loop-met.invariant
    ∙ append_assoc (map bounds_of c.args.ranges.now) (result_ranges (batches_of (take c.loop-met.met-index c.args.self.now.met.items))) ((m.batch.begin, end_of m.batch) ∷ [])
    ∙ ap (λ xs. map bounds_of c.args.ranges.now ++ xs) (sym next)

use Rattle.std.proofs.Common.{◌++◌, length, map, take, ap, sym, ◌∙◌, append_assoc, arith}
use Rattle.std.proofs.lemmas.Bool.{false≢true}
use Rattle.qtc_store.specs.Inside.{batches_of}
use Rattle.qtc_base.specs.Ranges.{bounds_of}
use Rattle.qtc_store.specs.Visible.{positions, position_ranges}
use Rattle.qtc_store.proofs.FrontLemmas.{values_here, positions_here, no_positions}
use Rattle.qtc_store.proofs.front.Front.append_positions.Goals as goal

pub overflow_cast-count : goal.overflow_cast-count
overflow_cast-count g c =
    let end = values_here c.args.self.now.met.items c.deref-met-items.result.now c.deref-met-items.ensures.value c.loop-met.met-index c.met-item.result c.loop-met-test.true c.met-item.is c.requires.firsts in
    omega (arith, end, ap length c.as_slice.ensures, c.requires.count, c.requires.few, c.requires.bounded)

pub append_positions-requires : goal.append_positions-requires
append_positions-requires g c =
    let end = values_here c.args.self.now.met.items c.deref-met-items.result.now c.deref-met-items.ensures.value c.loop-met.met-index c.met-item.result c.loop-met-test.true c.met-item.is c.requires.firsts in
    omega (arith, end, ap length c.as_slice.ensures, c.requires.count, c.requires.few, c.requires.bounded)

pub loop-met-preserved : goal.loop-met-preserved
loop-met-preserved g c =
    let m = c.met-item.result in
    let next = positions_here c.args.self.now.met.items c.deref-met-items.result.now c.deref-met-items.ensures.value c.loop-met.met-index c.met-item.result c.loop-met-test.true c.met-item.is c.requires.firsts in
    let len = ap length c.as_slice.ensures in
    c.in_ok-append_positions.ensures.ok
    ∙ ap (λ n. map bounds_of c.loop-met.ranges ++ positions m.first n) len
    ∙ ap (λ xs. xs ++ positions m.first (length m.batch.values)) c.loop-met.invariant
    ∙ append_assoc (map bounds_of c.args.ranges.now) (position_ranges 0 (batches_of (take c.loop-met.met-index c.args.self.now.met.items))) (positions m.first (length m.batch.values))
    ∙ ap (λ xs. map bounds_of c.args.ranges.now ++ xs) (sym next)

pub returns-in_err-append_positions-clause-sure : goal.returns-in_err-append_positions-clause-sure
returns-in_err-append_positions-clause-sure g c none =
    let m = c.met-item.result in
    let items = c.args.self.now.met.items in
    let next = positions_here items c.deref-met-items.result.now c.deref-met-items.ensures.value c.loop-met.met-index m c.loop-met-test.true c.met-item.is c.requires.firsts in
    absurd (false≢true (c.in_err-append_positions.ensures.sure (ap (positions m.first) (ap length c.as_slice.ensures) ∙ no_positions items c.loop-met.met-index m.first (length m.batch.values) none next)))

use Rattle.std.proofs.Common.{List, ◌+◌, ◌++◌, drop, replicate, ap, sym, subst, ◌∙◌}
use Rattle.std.specs.Vec.Iter.{into_iter_items}
use Rattle.qtc_kernel.specs.EngineParts.{EngineParts, DeskState}
use Rattle.qtc_run.specs.Pairing.{EachPair}
use Rattle.qtc_run.specs.Rounds.{IsFree, each_times}
use Rattle.qtc_run.proofs.Rows.{row-pairs, rows-from, rows-to}
use Rattle.qtc_run.proofs.rounds.bind_all.Goals as goal

pub bind_row-requires-clause-count : goal.bind_row-requires-clause-count
bind_row-requires-clause-count g c κs within =
    let R : EngineParts g.row.F.Denot → DeskState g.row.F.Denot → Type 0 = IsFree g.F.ItemFn.value g.F.ItemFn.called in
    (row-pairs R c.args.workers c.engine-item.result (each_times c.args.workers (drop (c.loop-engine.engine-index + 1) c.args.engines.now)) (into_iter_items c.loop-engine.desks)
    (subst (λ all_parts. EachPair R all_parts (into_iter_items c.loop-engine.desks)) (rows-from c.args.workers c.args.engines.now c.loop-engine.engine-index c.engine-item.result c.loop-engine-test.true c.engine-item.is) c.loop-engine.invariant.desks)).0

pub bind_row-requires-clause-free : goal.bind_row-requires-clause-free
bind_row-requires-clause-free g c κs within =
    let R : EngineParts g.row.F.Denot → DeskState g.row.F.Denot → Type 0 = IsFree g.F.ItemFn.value g.F.ItemFn.called in
    (row-pairs R c.args.workers c.engine-item.result (each_times c.args.workers (drop (c.loop-engine.engine-index + 1) c.args.engines.now)) (into_iter_items c.loop-engine.desks)
    (subst (λ all_parts. EachPair R all_parts (into_iter_items c.loop-engine.desks)) (rows-from c.args.workers c.args.engines.now c.loop-engine.engine-index c.engine-item.result c.loop-engine-test.true c.engine-item.is) c.loop-engine.invariant.desks)).1

pub loop-engine-preserved : goal.loop-engine-preserved
loop-engine-preserved g c =
    let R : EngineParts g.row.F.Denot → DeskState g.row.F.Denot → Type 0 = IsFree g.F.ItemFn.value g.F.ItemFn.called in
    let rest : List (EngineParts g.row.F.Denot) = each_times c.args.workers (drop (c.loop-engine.engine-index + 1) c.args.engines.now) in
    let all = row-pairs R c.args.workers c.engine-item.result rest (into_iter_items c.loop-engine.desks)
    (subst (λ all_parts. EachPair R all_parts (into_iter_items c.loop-engine.desks)) (rows-from c.args.workers c.args.engines.now c.loop-engine.engine-index c.engine-item.result c.loop-engine-test.true c.engine-item.is) c.loop-engine.invariant.desks) in
    record {
      desks = subst (λ (desks : List (DeskState g.row.F.Denot)). EachPair R rest desks) (sym c.in_ok-bind_row.ensures.desks) all.2;
      bound = c.in_ok-bind_row.ensures.bound ∙ (ap (λ (bound : List (EngineParts g.row.F.Denot)). bound ++ replicate c.args.workers c.engine-item.result) c.loop-engine.invariant.bound ∙ sym (rows-to c.args.workers c.args.engines.now c.loop-engine.engine-index c.engine-item.result c.loop-engine-test.true c.engine-item.is));
    }

use Rattle.std.proofs.Common.{◌≡◌, List, ◌+◌, ◌∙◌, drop}
use Rattle.qtc_kernel.specs.EngineParts.{EngineParts}
use Rattle.qtc_run.specs.Rounds.{HasDone, each_times}
use Rattle.qtc_run.proofs.Planned.{are-desks, are-out}
use Rattle.qtc_run.proofs.ReportLemmas.{pairs-next}
use Rattle.qtc_run.proofs.Rows.{all-at, rows-from}
use Rattle.qtc_run.proofs.rounds.finish_all.Goals as goal

pub finish-requires-clause-desks : goal.finish-requires-clause-desks
finish-requires-clause-desks g c κs within =
    let rest : List (EngineParts g.row.F.Denot) = each_times c.args.workers (drop (c.loop-engine.engine-index + 1) c.args.engines.now) in
    let here = c.loop-engine.invariant.left ∙ rows-from c.args.workers c.args.engines.now c.loop-engine.engine-index c.engine-item.result c.loop-engine-test.true c.engine-item.is in
    let all = c.in_ok-desks.ensures c.engine-item.result rest here in
    are-desks g.F.ItemFn.value g.F.ItemFn.called c.args.workers c.engine-item.result c.in_ok-desks.desks.items all.0 (all-at (λ (parts : EngineParts g.row.F.Denot). parts.counter.workers ≡ c.args.workers) c.args.engines.now c.loop-engine.engine-index c.engine-item.result c.requires.workers c.loop-engine-test.true c.engine-item.is) all.1

pub finish-requires-clause-out : goal.finish-requires-clause-out
finish-requires-clause-out g c κs within =
    let rest : List (EngineParts g.row.F.Denot) = each_times c.args.workers (drop (c.loop-engine.engine-index + 1) c.args.engines.now) in
    let here = c.loop-engine.invariant.left ∙ rows-from c.args.workers c.args.engines.now c.loop-engine.engine-index c.engine-item.result c.loop-engine-test.true c.engine-item.is in
    are-out g.F.ItemFn.value g.F.ItemFn.called c.engine-item.result c.in_ok-desks.desks.items (c.in_ok-desks.ensures c.engine-item.result rest here).1

pub loop-engine-preserved : goal.loop-engine-preserved
loop-engine-preserved g c =
    let rest : List (EngineParts g.row.F.Denot) = each_times c.args.workers (drop (c.loop-engine.engine-index + 1) c.args.engines.now) in
    let here = c.loop-engine.invariant.left ∙ rows-from c.args.workers c.args.engines.now c.loop-engine.engine-index c.engine-item.result c.loop-engine-test.true c.engine-item.is in
    record {
      done = pairs-next (HasDone g.F.ItemFn.value) c.args.engines.now c.loop-engine.finished.items c.push.new.self.items c.loop-engine.engine-index c.engine-item.result c.in_ok-done.done c.loop-engine-test.true c.engine-item.is
          c.in_ok-push.ensures.items c.loop-engine.invariant.done (record { of = c.in_ok-done.ensures.pass.0; finished = c.in_ok-done.ensures.pass.1; worked = c.in_ok-done.ensures.worked });
      left = (c.in_ok-desks.ensures c.engine-item.result rest here).2;
    }

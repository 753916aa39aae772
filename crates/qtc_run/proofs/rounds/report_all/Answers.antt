use Rattle.std.proofs.Common.{◌∷◌, List, drop, subst}
use Rattle.std.specs.Vec.Iter.{into_iter_items}
use Rattle.qtc_kernel.specs.EngineParts.{EngineParts}
use Rattle.qtc_kernel.specs.declared.finish.Finished.{Finished}
use Rattle.qtc_run.specs.Pairing.{EachPair}
use Rattle.qtc_run.specs.Rounds.{HasDone, IsEngineFor, IsReportFor}
use Rattle.qtc_run.specs.declared.rounds.RoundJob.{RoundJob}
use Rattle.qtc_run.proofs.ReportLemmas.{pairs-next}
use Rattle.qtc_run.proofs.Rows.{pairs-first}
use Rattle.qtc_run.proofs.rounds.report_all.Goals as goal

pub loop-source-preserved : goal.loop-source-preserved
loop-source-preserved g c =
    let R : RoundJob → EngineParts g.row.F.Denot → Type 0 = IsEngineFor g.F.ItemFn.value c.args.workers in
    let more : List (EngineParts g.row.F.Denot) = into_iter_items c.next.new.self in
    let engines = subst (λ (engines : List (EngineParts g.row.F.Denot)). EachPair R (drop c.loop-source.source-index c.args.sources.now) engines) c.in-Some.ensures.cases.0 c.loop-source.invariant.engines in
    let finished = subst (λ (finished : List (Finished g.row.F.Denot)). EachPair (HasDone g.F.ItemFn.value) (c.in-Some.engine ∷ more) finished) c.in-Some-next.ensures.cases.0
    (subst (λ (engines : List (EngineParts g.row.F.Denot)). EachPair (HasDone g.F.ItemFn.value) engines (into_iter_items c.loop-source.finished)) c.in-Some.ensures.cases.0 c.loop-source.invariant.finished) in
    record {
      engines = (pairs-first R c.args.sources.now c.loop-source.source-index c.source-item.result c.in-Some.engine more c.loop-source-test.true c.source-item.is engines).1;
      finished = finished.1;
      reports = pairs-next IsReportFor c.args.sources.now c.loop-source.reports c.push.new.self c.loop-source.source-index c.source-item.result c.in_ok-report.report c.loop-source-test.true c.source-item.is c.in-Ok.ensures.ok c.loop-source.invariant.reports c.in_ok-report.ensures;
    }

use Rattle.std.proofs.Common.{take, drop}
use Rattle.std.specs.Vec.Iter.{into_iter_items}
use Rattle.qtc_run.specs.Pairing.{EachPair}
use Rattle.qtc_run.specs.Rounds.{HasDone, IsEngineFor, IsReportFor}
use Rattle.qtc_run.proofs.rounds.report_all.Given as goal

abbrev pub invariant-loop-source : goal.invariant-loop-source
invariant-loop-source g l = record {
  engines : EachPair (IsEngineFor g.F.ItemFn.value l.workers) (drop l.source-index l.sources) (into_iter_items l.engines);
  finished : EachPair (HasDone g.F.ItemFn.value) (into_iter_items l.engines) (into_iter_items l.finished);
  reports : EachPair IsReportFor (take l.source-index l.sources) l.reports;
}

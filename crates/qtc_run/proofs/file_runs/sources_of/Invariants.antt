use Rattle.std.proofs.Common.{take}
use Rattle.std.specs.Prelude.{All}
use Rattle.qtc_run.specs.Pairing.{EachPair}
use Rattle.qtc_run.specs.Rounds.{IsReady, IsSourceOf}
use Rattle.qtc_run.proofs.file_runs.sources_of.Given as goal

abbrev pub invariant-loop-place : goal.invariant-loop-place
invariant-loop-place l = record {
  sources : EachPair (IsSourceOf l.loaded) (take l.place l.jobs) l.sources.items;
  ready : All IsReady l.sources.items;
}

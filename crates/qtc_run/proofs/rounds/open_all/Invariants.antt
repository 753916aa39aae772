use Rattle.std.proofs.Common.{take}
use Rattle.qtc_ops.specs.Operations.{value_of}
use Rattle.qtc_ops.specs.Prepared.{op_of}
use Rattle.qtc_run.specs.Pairing.{EachPair}
use Rattle.qtc_run.specs.Rounds.{IsEngineFor, IsFree, each_times}
use Rattle.qtc_run.proofs.rounds.open_all.Given as goal

abbrev pub invariant-loop-source : goal.invariant-loop-source
invariant-loop-source g l = record {
  engines : EachPair (IsEngineFor (λ function. value_of (op_of function.op)) l.workers) (take l.source-index l.sources) l.engines.items;
  desks : EachPair (IsFree (λ function. value_of (op_of function.op)) (λ function. function.calls)) (each_times l.workers l.engines.items) l.desks.items;
}

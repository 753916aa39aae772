use Rattle.std.proofs.Common.{◌++◌, List, sym, subst}
use Rattle.qtc_kernel.specs.EngineParts.{EngineParts, DeskState}
use Rattle.qtc_ops.specs.Operations.{value_of}
use Rattle.qtc_ops.specs.Prepared.{op_of}
use Rattle.qtc_ops.specs.declared.op_fns.OpFn.{OpFn}
use Rattle.qtc_run.specs.Pairing.{EachPair}
use Rattle.qtc_run.specs.Rounds.{IsEngineFor, IsFree, each_times}
use Rattle.qtc_run.proofs.Planned.{seats-push}
use Rattle.qtc_run.proofs.ReportLemmas.{pairs-next}
use Rattle.qtc_run.proofs.rounds.open_all.Goals as goal

pub loop-source-preserved : goal.loop-source-preserved
loop-source-preserved g c =
    let all_parts : List (EngineParts OpFn) = c.loop-source.engines.items in
    let desks : List (DeskState OpFn) = c.loop-source.desks.items in
    let theirs : List (DeskState OpFn) = c.in_ok-engine.theirs.items in
    record {
      engines = pairs-next (IsEngineFor (λ (function : OpFn). value_of (op_of function.op)) c.args.workers) c.args.sources.now all_parts c.push.new.self.items c.loop-source.source-index c.source-item.result c.in_ok-engine.engine
          c.loop-source-test.true c.source-item.is c.in_ok-push.ensures.items c.loop-source.invariant.engines c.in_ok-engine.ensures.engine;
      desks = subst (λ (desks : List (DeskState OpFn)). EachPair (IsFree (λ (function : OpFn). value_of (op_of function.op)) (λ (function : OpFn). function.calls)) (each_times c.args.workers c.push.new.self.items) desks) (sym c.in_ok-append.ensures.items)
          (subst (λ (all_parts : List (EngineParts OpFn)). EachPair (IsFree (λ (function : OpFn). value_of (op_of function.op)) (λ (function : OpFn). function.calls)) (each_times c.args.workers all_parts) (desks ++ theirs)) (sym c.in_ok-push.ensures.items)
          (seats-push (λ (function : OpFn). value_of (op_of function.op)) (λ (function : OpFn). function.calls) c.args.workers all_parts c.in_ok-engine.engine desks theirs c.in_ok-engine.ensures.engine.count c.loop-source.invariant.desks c.in_ok-engine.ensures.desks));
    }

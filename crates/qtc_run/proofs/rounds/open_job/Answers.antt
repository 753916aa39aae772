use Rattle.std.proofs.Common.{refl, ◌∙◌}
use Rattle.qtc_ops.specs.Operations.{value_of}
use Rattle.qtc_ops.specs.Prepared.{op_of}
use Rattle.qtc_ops.specs.declared.op_fns.OpFn.{OpFn}
use Rattle.qtc_run.proofs.Planned.{engine-for, free-desks, kind-ready, planned}
use Rattle.qtc_run.proofs.rounds.open_job.Goals as goal

pub new-requires-after_bounds : goal.new-requires-after_bounds
new-requires-after_bounds g c κs within =
    planned (λ (function : OpFn). value_of (op_of function.op)) (λ (function : OpFn). function.calls) c.args.workers c.args.source.now c.kind_of.result c.from_vec.result c.in_ok-functions.functions.items
    c.requires.ready c.requires.workers c.kind_of.ensures (c.from_vec.ensures ∙ (c.in_ok-blocks.ensures.items ∙ c.as_slice.ensures)) c.in_ok-functions.ensures.count c.in_ok-functions.ensures.value c.in_ok-functions.ensures.fresh

pub returns-clause-engine : goal.returns-clause-engine
returns-clause-engine g c =
    engine-for (λ (function : OpFn). value_of (op_of function.op)) (λ (function : OpFn). function.calls) c.args.workers c.args.source.now c.kind_of.result c.args.source.now.job.now.cancel_after c.args.source.now.job.now.suspend_after
    c.from_vec.result c.in_ok-functions.functions.items c.in_ok-engine.engine c.in_ok-engine.desks.items c.in_ok-engine._pass
    c.requires.workers.0 (kind-ready c.args.source.now c.kind_of.result c.requires.ready c.kind_of.ensures) (c.from_vec.ensures ∙ (c.in_ok-blocks.ensures.items ∙ c.as_slice.ensures)) refl refl c.in_ok-functions.ensures.count c.in_ok-functions.ensures.value c.in_ok-engine.ensures

pub returns-clause-desks : goal.returns-clause-desks
returns-clause-desks g c = free-desks (λ (function : OpFn). value_of (op_of function.op)) (λ (function : OpFn). function.calls) _ _ _ _ _ c.in_ok-engine.engine c.in_ok-engine.desks.items c.in_ok-engine._pass c.in_ok-engine.ensures

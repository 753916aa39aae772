use Rattle.std.proofs.Common.{◌≡◌, List, sym, subst}
use Rattle.std.specs.Prelude.{All}
use Rattle.qtc_kernel.specs.EngineParts.{EngineParts}
use Rattle.qtc_ops.specs.Operations.{value_of}
use Rattle.qtc_ops.specs.Prepared.{op_of}
use Rattle.qtc_ops.specs.declared.op_fns.OpFn.{OpFn}
use Rattle.qtc_run.proofs.Planned.{all-have}
use Rattle.qtc_run.proofs.rounds.run_round.Goals as goal

pub finish_all-requires-clause-workers : goal.finish_all-requires-clause-workers
finish_all-requires-clause-workers g c κs within =
    subst (λ (all_parts : List (EngineParts OpFn)). All (λ parts. parts.counter.workers ≡ c.args.workers) all_parts) (sym c.deref-2.ensures.value)
    (all-have (λ (function : OpFn). value_of (op_of function.op)) (λ (function : OpFn). function.calls) c.args.workers c.args.sources.now _ c.in_ok-engines.ensures.engines)

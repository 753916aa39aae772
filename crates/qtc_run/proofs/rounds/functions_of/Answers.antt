use Rattle.std.proofs.Common.{List, ◌≡◌, [], ◌+◌, length, ap, sym, subst, ◌∙◌}
use Rattle.std.specs.Prelude.{All}
use Rattle.std.proofs.lemmas.List.{length_push}
use Rattle.qtc_ops.specs.Operations.{value_of}
use Rattle.qtc_ops.specs.Prepared.{op_of}
use Rattle.qtc_ops.specs.declared.op_fns.OpFn.{OpFn}
use Rattle.qtc_run.proofs.Rows.{all-push}
use Rattle.qtc_run.proofs.rounds.functions_of.Goals as goal

pub loop-preserved : goal.loop-preserved
loop-preserved c =
    let old : List OpFn = c.loop.functions.items in
    let more = c.in_ok-push.ensures.items in
    record {
      count = ap length more ∙ (length_push old c.new.result ∙ ap (λ n. n + 1) c.loop.invariant.count);
      value = subst (λ (functions : List OpFn). All (λ function. value_of (op_of function.op) ≡ value_of c.args.op.now) functions) (sym more)
          (all-push (λ function. value_of (op_of function.op) ≡ value_of c.args.op.now) old c.new.result c.loop.invariant.value (c.new.ensures.value ∙ ap value_of c.in_ok-copy.ensures));
      fresh = subst (λ (functions : List OpFn). All (λ function. function.calls ≡ []) functions) (sym more) (all-push (λ function. function.calls ≡ []) old c.new.result c.loop.invariant.fresh c.new.ensures.called);
    }

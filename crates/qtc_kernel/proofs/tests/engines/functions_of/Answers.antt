use Rattle.std.proofs.Common.{◌≡◌, ◌∷◌, ◌++◌, ◌∙◌, ◌+◌, [], All, length, ap, sym, subst, arith, length-append}
use Rattle.std.proofs.lemmas.List.Elements.{All-push}
use Rattle.qtc_ops.specs.contracts.op_fns.OpFnItemFn.TheImpl.{value-value, called-value}
use Rattle.qtc_ops.specs.Operations.{value_of}
use Rattle.qtc_ops.specs.declared.op_fns.OpFn.{OpFn}
use Rattle.qtc_kernel.proofs.tests.engines.functions_of.Goals as goal

pub loop-made-preserved : goal.loop-made-preserved
loop-made-preserved c =
    let was = c.loop-made.functions.items in
    let f = c.new.result in
    let items : c.push.new.self.items ≡ was ++ f ∷ [] = c.in_ok-push.ensures.items in
    let long = ap length items ∙ length-append was (f ∷ []) in
    let before = c.loop-made.invariant.count in
    let Alike : OpFn → Type 0 = λ it. value-value.it it ≡ value_of c.args.op.now in
    let Fresh : OpFn → Type 0 = λ it. called-value.it it ≡ [] in
    record {
      count = omega (arith, long, before);
      alike = subst (All Alike) (sym items) (All-push Alike was f c.loop-made.invariant.alike (c.new.ensures.value ∙ ap value_of c.in_ok-copy.ensures));
      fresh = subst (All Fresh) (sym items) (All-push Fresh was f c.loop-made.invariant.fresh c.new.ensures.called);
    }

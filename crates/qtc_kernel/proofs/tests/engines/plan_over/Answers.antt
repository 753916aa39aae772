use Rattle.std.proofs.Common.{◌≡◌, ◌≤◌, ◌∷◌, ◌++◌, ◌∙◌, ℕ, List, [], All, length, ap, sym, subst, arith}
use Rattle.std.proofs.lemmas.List.Elements.{All-head, All-weaker}
use Rattle.qtc_ops.specs.contracts.op_fns.OpFnItemFn.TheImpl.{value-value}
use Rattle.qtc_ops.specs.ItemValue.{ItemValue}
use Rattle.qtc_ops.specs.Operations.{value_of}
use Rattle.qtc_ops.specs.declared.op_fns.OpFn.{OpFn}
use Rattle.qtc_kernel.specs.EngineParts.{value_by}
use Rattle.qtc_kernel.specs.Driving.{AreSizes}
use Rattle.qtc_kernel.specs.OwnPasses.{drops_items}
use Rattle.qtc_kernel.specs.Workload.{Suits, workload}
use Rattle.qtc_kernel.proofs.tests.engines.plan_over.Goals as goal

-- what they all make of an item
value_by_is : {F : Type 0} (value : F → List ℕ → ItemValue) (all : List ℕ → ItemValue) (functions : List F) → 1 ≤ length functions → All (λ f. value f ≡ all) functions → value_by value functions ≡ all
value_by_is value all [] some alike = absurd (omega arith)
value_by_is value all (f ∷ functions) some alike = All-head (λ it. value it ≡ all) f functions alike

pub returns : goal.returns
returns c =
    let functions = c.in_ok-functions.functions.items in
    let all = value_of c.args.op.now in
    let count = c.in_ok-functions.ensures.count in
    let by : value_by value-value.it functions ≡ all = value_by_is value-value.it all functions (omega (arith, count, c.requires.workers.0)) c.in_ok-functions.ensures.alike in
    let sizes : c.from_vec.result ≡ c.args.sizes.now = c.from_vec.ensures ∙ c.in_ok-extend_from_slice.ensures.items ∙ ap (λ (xs : List ℕ). xs ++ c.args.sizes.now) c.new-blocks.ensures.items in
    record {
      plain = c.requires.plain;
      folds = sym c.requires.plain;
      limits = record { indexes = c.requires.items; one = c.requires.workers.0; few = c.requires.workers.1 };
      sizes_are = subst AreSizes (sym sizes) c.requires.sizes;
      count = count;
      alike = All-weaker (λ (f : OpFn). value-value.it f ≡ all) (λ f. value-value.it f ≡ value_by value-value.it functions) (λ f is. is ∙ sym by) functions c.in_ok-functions.ensures.alike;
      fresh = c.in_ok-functions.ensures.fresh;
      suits = subst (λ (value : List ℕ → ItemValue). Suits (drops_items c.args.kind) (workload c.args.items.now value)) (sym by) c.requires.suits;
    }

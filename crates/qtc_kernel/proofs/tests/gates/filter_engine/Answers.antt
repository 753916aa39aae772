use Rattle.std.proofs.Common.{◌≡◌, ◌∷◌, ◌++◌, ◌∙◌, ℕ, List, [], None, ap, sym, subst, refl, arith}
use Rattle.std.proofs.lemmas.List.Elements.{All-cons, All-nil}
use Rattle.qtc_kernel.specs.EngineParts.{IsPlanned}
use Rattle.qtc_kernel.specs.Driving.{AreSizes}
use Rattle.qtc_kernel.specs.declared.kinds.Kind.TheVariants.{Filtered}
use Rattle.qtc_kernel.proofs.tests.gates.filter_engine.Goals as goal

pub engine_of-requires-after_bounds : goal.engine_of-requires-after_bounds
engine_of-requires-after_bounds g c κs within =
    let value = g.F.ItemFn.value in
    let called = g.F.ItemFn.called in
    let function = c.args.function in
    let functions : c.push.new.self.items ≡ function ∷ [] = c.in_ok-push.ensures.items ∙ ap (λ fs. fs ++ function ∷ []) c.new-functions.ensures.items in
    let sizes : c.from_vec.result ≡ c.args.sizes.now = c.from_vec.ensures ∙ c.in_ok-extend_from_slice.ensures.items ∙ ap (λ (xs : List ℕ). xs ++ c.args.sizes.now) c.new-blocks.ensures.items in
    subst (IsPlanned value called Filtered None c.args.items.now 1 c.from_vec.result) (sym functions) (record {
      plain = refl;
      folds = refl;
      limits = record { indexes = c.requires.items; one = omega arith; few = omega arith };
      sizes_are = subst AreSizes (sym sizes) c.requires.sizes;
      count = refl;
      alike = All-cons (λ f. value f ≡ value function) function [] refl (All-nil (λ f. value f ≡ value function));
      fresh = All-cons (λ f. called f ≡ []) function [] c.requires.fresh (All-nil (λ f. called f ≡ []));
      suits = λ plain. absurd (cc);
    })

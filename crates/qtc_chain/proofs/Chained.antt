-- Chains as folds, and chains that go on.
use Rattle.std.proofs.Common.{◌≡◌, [], ◌∷◌, sym, subst, refl}
use Rattle.std.specs.List.{fold}
use Rattle.qtc_future.specs.declared.replies.Outcome.{Outcome}
use Rattle.qtc_chain.specs.Laws.{AreFolds, GoOn}

module _ {V K : Type 0} (gives : K → Outcome V → Outcome V → Type 0) where
  pub are_folds : AreFolds gives
  are_folds f is first [] last e = sym e
  are_folds f is first (step ∷ steps) last chained =
      let rest = are_folds f is chained.0 steps last chained.2 in
      subst (λ o. last ≡ fold f o steps) (is step first chained.0 chained.1) rest

  pub go_on : GoOn gives
  go_on first last [] more chained = (first, refl, chained)
  go_on first last (step ∷ steps) more chained =
      let rest = go_on chained.0 last steps more chained.2 in
      (rest.0, (chained.0, chained.1, rest.1), rest.2)

-- The calls of a future that is finished as it is made.
use Rattle.std.proofs.Common.{◌≡◌, ◌⊎◌, inl, inr, ℕ, ◌≤◌, false, List, [], ◌∷◌, ◌++◌, All, length, refl, ap, sym, ◌∙◌, subst, arith}
use Rattle.std.proofs.lemmas.List.Elements.{All-append, All-cons, All-nil}
use Rattle.qtc_future.specs.Future.{Future, Logged, new_future}
use Rattle.qtc_future.specs.Runs.{CanAsk}
use Rattle.qtc_future.specs.Steps.{step}
use Rattle.qtc_future.specs.declared.requests.Request.{Request}
use Rattle.qtc_future.specs.declared.requests.Request.TheVariants.{Start, ReportBatch, Finish}
use Rattle.qtc_future.proofs.Legality.{journals_grow_by_one}
use Rattle.qtc_shared.specs.Journals.{IsOfFirst}
use Rattle.qtc_tasks.specs.Ready.{ready_core}

module _ {V : Type 0} where
  of_first : (future : Future V) (request : Request V) → CanAsk future.filter request → All IsOfFirst future.calls → All IsOfFirst (step future 0 request).future.calls
  of_first future request can all = elim (journals_grow_by_one V future 0 request can) [
    | inl same ↦ subst (λ f. All IsOfFirst f.calls) (sym same) all
    | inr last ↦ subst (λ f. All IsOfFirst f.calls) (sym last.1.after)
        (All-append IsOfFirst future.calls (last.0 ∷ []) all (All-cons IsOfFirst last.0 [] (record { caller = last.1.made }) (All-nil IsOfFirst)))
  ]

  pub ready_first : (values : List V) → All IsOfFirst (ready_core values).calls
  ready_first values =
      let started = (step (new_future false 0 0) 0 Start).future in
      let reported = (step started 0 (ReportBatch 0 values (length values))).future in
      of_first reported Finish tt
      (of_first started (ReportBatch 0 values (length values)) (omega arith, λ plain. refl)
      (of_first (new_future false 0 0) Start tt (All-nil IsOfFirst)))

-- Whatever is called, the first step that was attached comes out to be run once.
use Rattle.std.proofs.Common.{◌≡◌, true, false, if◌then◌else◌, List, [], ◌∷◌, ◌++◌, Some, None, take, drop, sym, subst, ap, ◌∙◌, refl, flat_map}
use Rattle.std.specs.List.{FoldsTo, list_any}
use Rattle.qtc_chain.specs.declared.cont_state.Attach.TheVariants.{Waiting, RunNow, Refused}
use Rattle.qtc_chain.specs.Continuing.{Cont}
use Rattle.qtc_chain.specs.Laws.{Told, attach, finish, Does, RunsFirst, StepsRunOnce, attached_by, is_finish, listed, refused, refused_by, run_by, to_run}

module _ {K : Type 0} where
  abbrev steps_of : List (Told K) → List K
  steps_of calls = flat_map attached_by calls

  -- the future has finished, and a step was attached: all others are refused
  spent : (calls : List (Told K)) (last : Cont K) → FoldsTo Does (record { waiting = None; attached = true; finished = true }) calls last
      → (flat_map run_by calls ≡ []) × (flat_map refused_by calls ≡ steps_of calls)
      × (last ≡ record { waiting = None; attached = true; finished = true })
  spent [] last e = (refl, refl, sym e)
  spent (attach step answer ∷ calls) last told =
      let at : answer ≡ Refused step = told.1.refused.1 refl in
      let rest = spent calls last (subst (λ s. FoldsTo Does s calls last) told.1.after told.2) in (
        ap (λ a. to_run a ++ flat_map run_by calls) at ∙ rest.0,
        ap (λ a. refused a ++ flat_map refused_by calls) at ∙ ap (λ l. step ∷ l) rest.1,
        rest.2,
      )
  spent (finish answer ∷ calls) last told =
      let at : answer ≡ None = told.1.out in
      let rest = spent calls last (subst (λ s. FoldsTo Does s calls last) told.1.after told.2) in
      (ap (λ a. listed a ++ flat_map run_by calls) at ∙ rest.0, rest.1, rest.2)

  -- the future has finished, and no step was attached yet: the first is run at once
  ended : (calls : List (Told K)) (last : Cont K) → FoldsTo Does (record { waiting = None; attached = false; finished = true }) calls last
      → (flat_map run_by calls ≡ take 1 (steps_of calls)) × (flat_map refused_by calls ≡ drop 1 (steps_of calls))
      × (last.waiting ≡ None) × (last.finished ≡ true)
  ended [] last e = (refl, refl, ap (λ s. s.waiting) (sym e), ap (λ s. s.finished) (sym e))
  ended (attach step answer ∷ calls) last told =
      let at : answer ≡ RunNow step = told.1.run_now.1 (refl, refl) in
      let rest = spent calls last (subst (λ s. FoldsTo Does s calls last) told.1.after told.2) in (
        ap (λ a. to_run a ++ flat_map run_by calls) at ∙ ap (λ l. step ∷ l) rest.0,
        ap (λ a. refused a ++ flat_map refused_by calls) at ∙ rest.1,
        ap (λ s. s.waiting) rest.2,
        ap (λ s. s.finished) rest.2,
      )
  ended (finish answer ∷ calls) last told =
      let at : answer ≡ None = told.1.out in
      let rest = ended calls last (subst (λ s. FoldsTo Does s calls last) told.1.after told.2) in
      (ap (λ a. listed a ++ flat_map run_by calls) at ∙ rest.0, rest.1, rest.2, rest.3)

  -- a step waits: it comes out with the first finish
  waits : (step : K) (calls : List (Told K)) (last : Cont K)
      → FoldsTo Does (record { waiting = Some step; attached = true; finished = false }) calls last
      → (flat_map run_by calls ≡ (if last.finished then step ∷ [] else []))
      × (listed last.waiting ≡ (if last.finished then [] else step ∷ []))
      × (flat_map refused_by calls ≡ steps_of calls) × (last.finished ≡ list_any is_finish calls)
  waits step [] last e =
      let finished : last.finished ≡ false = ap (λ s. s.finished) (sym e) in
      let waiting : last.waiting ≡ Some step = ap (λ s. s.waiting) (sym e) in (
        sym (ap (λ b. if b then step ∷ [] else []) finished),
        ap listed waiting ∙ sym (ap (λ b. if b then [] else step ∷ []) finished),
        refl,
        finished,
      )
  waits step (attach other answer ∷ calls) last told =
      let at : answer ≡ Refused other = told.1.refused.1 refl in
      let rest = waits step calls last (subst (λ s. FoldsTo Does s calls last) told.1.after told.2) in (
        ap (λ a. to_run a ++ flat_map run_by calls) at ∙ rest.0,
        rest.1,
        ap (λ a. refused a ++ flat_map refused_by calls) at ∙ ap (λ l. other ∷ l) rest.2,
        rest.3,
      )
  waits step (finish answer ∷ calls) last told =
      let at : answer ≡ Some step = told.1.out in
      let rest = spent calls last (subst (λ s. FoldsTo Does s calls last) told.1.after told.2) in
      let true_then : last.finished ≡ true = ap (λ s. s.finished) rest.2 in (
        ap (λ a. listed a ++ flat_map run_by calls) at ∙ ap (λ l. step ∷ l) rest.0
            ∙ sym (ap (λ b. if b then step ∷ [] else []) true_then),
        ap (λ s. listed s.waiting) rest.2 ∙ sym (ap (λ b. if b then [] else step ∷ []) true_then),
        rest.1,
        true_then,
      )

  pub steps_run_once : StepsRunOnce K
  steps_run_once [] last e = subst (λ s. RunsFirst [] s) e (record { run = refl; waits = refl; others = refl; finished = refl })
  steps_run_once (attach step answer ∷ calls) last told =
      let at : answer ≡ Waiting = told.1.waits.1 (refl, refl) in
      let rest = waits step calls last (subst (λ s. FoldsTo Does s calls last) told.1.after told.2) in
      record {
        run = ap (λ a. to_run a ++ flat_map run_by calls) at ∙ rest.0;
        waits = rest.1;
        others = ap (λ a. refused a ++ flat_map refused_by calls) at ∙ rest.2;
        finished = rest.3;
      }
  steps_run_once (finish answer ∷ calls) last told =
      let at : answer ≡ None = told.1.out in
      let rest = ended calls last (subst (λ s. FoldsTo Does s calls last) told.1.after told.2) in
      record {
        run = ap (λ a. listed a ++ flat_map run_by calls) at ∙ rest.0 ∙ sym (ap (λ b. if b then take 1 (steps_of calls) else []) rest.3);
        waits = ap listed rest.2 ∙ sym (ap (λ b. if b then [] else take 1 (steps_of calls)) rest.3);
        others = rest.1;
        finished = rest.3;
      }

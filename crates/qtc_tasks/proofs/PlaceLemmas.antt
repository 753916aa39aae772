-- Places of jobs, one by one and together.
use Rattle.std.proofs.Common.{◌≡◌, ℕ, zero, suc, ◌+◌, ◌<◌, List, [], ◌∷◌, ◌++◌, Option, None, Some, length, map, take, refl, ap, sym, ◌∙◌, subst, arith}
use Rattle.std.specs.Prelude.{option_to_list, slice_index_or}
use Rattle.std.specs.List.{AllZip}
use Rattle.qtc_shared.specs.Passes.{FutureId}
use Rattle.qtc_tasks.specs.Places.{EachIsRun, EndsAs, IsReady, IsReadyAt, IsRun, ends_in, waiting}
use Rattle.qtc_tasks.specs.Runs.{IsJobEnd, MayRun}
use Rattle.qtc_tasks.specs.Tasks.{TaskState}
use Rattle.qtc_tasks.specs.declared.ends.TaskEnd.{TaskEnd}
use Rattle.qtc_tasks.specs.declared.ends.TaskJob.{TaskJob}
use Rattle.qtc_tasks.specs.declared.places.Place.{Place}

pub taken_back : {X : Type 0} (n : ℕ) (xs zs : List X) → n ≡ length xs → take n (xs ++ zs) ≡ xs
taken_back n xs zs is = ap (λ k. take k (xs ++ zs)) is ∙ fronts xs zs
  where
    fronts : {X : Type 0} (xs zs : List X) → take (length xs) (xs ++ zs) ≡ xs
    fronts [] zs = refl
    fronts (x ∷ xs) zs = ap (λ ys. x ∷ ys) (fronts xs zs)

module _ {V T : Type 0} where
  pub places_count : (jobs : List (TaskJob V T)) → length (map waiting jobs) ≡ length jobs
  places_count [] = refl
  places_count (job ∷ jobs) = ap suc (places_count jobs)

  pub all_ready : (futures : List FutureId) (jobs : List (TaskJob V T)) → AllZip MayRun futures jobs → AllZip IsReady futures (map waiting jobs)
  all_ready [] [] may = tt
  all_ready [] (job ∷ jobs) may = absurd may
  all_ready (future ∷ futures) [] may = absurd may
  all_ready (future ∷ futures) (job ∷ jobs) may = (record { waits = may.0 }, all_ready futures jobs may.1)

  pub ready_at : (futures : List FutureId) (places : List (Place V T)) (index : ℕ) (place : Place V T) → AllZip IsReady futures places → index < length places
      → place ≡ slice_index_or places index place → IsReadyAt futures index place
  ready_at [] [] index place ready within is = absurd (omega arith)
  ready_at [] (first ∷ places) index place ready within is = absurd ready
  ready_at (future ∷ futures) [] index place ready within is = absurd ready
  ready_at (future ∷ futures) (first ∷ places) zero place ready within is = record {
    within = omega arith;
    ready = λ other. subst (IsReady future) (sym is) ready.0;
  }
  ready_at (future ∷ futures) (first ∷ places) (suc index) place ready within is =
      let rest = ready_at futures places index place ready.1 (omega arith) is in
      record { within = let less = rest.within in omega arith; ready = rest.ready }

  first_ends : (state : T → TaskState V) (job : TaskJob V T) (end : Option (TaskEnd V T)) (jobs : List (TaskJob V T)) (ends : List (TaskEnd V T)) → EndsAs state (Some job) end → AllZip (IsJobEnd state) jobs ends
      → AllZip (IsJobEnd state) (job ∷ jobs) (option_to_list end ++ ends)
  first_ends state job None jobs ends none rest = absurd none
  first_ends state job (Some end) jobs ends is rest = (is, rest)

  pub run_at : (state : T → TaskState V) (old new argument after : Place V T) → argument ≡ old → after ≡ new → IsRun state argument after → IsRun state old new
  run_at state old new argument after is left run = subst (λ x. IsRun state x new) is (subst (λ y. IsRun state argument y) left run)

  pub runs_end : (state : T → TaskState V) (jobs : List (TaskJob V T)) (places : List (Place V T)) → length places ≡ length jobs
      → ((index : ℕ) (other : Place V T) → index < length jobs → IsRun state (slice_index_or (map waiting jobs) index other) (slice_index_or places index other))
      → AllZip (IsJobEnd state) jobs (ends_in places)
  runs_end state [] [] count each = tt
  runs_end state [] (place ∷ places) count each = absurd (omega (arith, count))
  runs_end state (job ∷ jobs) [] count each = absurd (omega (arith, count))
  runs_end state (job ∷ jobs) (place ∷ places) count each =
      first_ends state job place.end (jobs) (ends_in places) (each 0 place (omega arith)).ends
      (runs_end state jobs places (omega (arith, count)) (λ index other less. each (suc index) other (omega arith)))

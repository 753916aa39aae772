-- What an engine with workers has done once all of them are out. (Own.)
use Rattle.std.specs.Prelude.{◌≡◌, ◌<◌, ◌≤◌, ℕ, false, List, [], ◌∷◌, ◌++◌, All, IsTrue, None, Some, map}
use Rattle.std.specs.List.{flat_map}
use Rattle.qtc_base.specs.Ranges.{Tiles, times_covered}
use Rattle.qtc_events.specs.declared.calls.Call.{Call}
use Rattle.qtc_events.specs.declared.calls.Call.TheVariants.{Cancel, Finish}
use Rattle.qtc_store.specs.Stored.{IsFirstResults}
use Rattle.qtc_future.specs.Future.{Future, Logged, failure_of, flags_of, reports_of, results_of}
use Rattle.qtc_future.specs.declared.replies.Failure.{Failure}
use Rattle.qtc_ops.specs.ItemValue.{ItemValue}
use Rattle.qtc_shared.specs.Journals.{IsJournal}
use Rattle.qtc_shared.specs.Parts.{Terms, future_at}
use Rattle.qtc_kernel.specs.Laws.{AreCalledOnce, IsFailing}
use Rattle.qtc_kernel.specs.OwnPasses.{engine_makes, opening_calls}
use Rattle.qtc_kernel.specs.Runs.{HasTexts, IsBlock, reported_ranges, times_called}
use Rattle.qtc_kernel.specs.Workload.{Workload, bad_indexes, first_bad, kept_texts, size_of}
use Rattle.qtc_kernel.specs.declared.kinds.Kind.{Kind}

-- the journal begins as each engine's does, and ends with a finish
pub record IsOpenedAndFinished (journal : List (Logged (List ℕ))) : Type 0 where
  pub between : List Call
  pub whole : map (λ logged. logged.entry.call) journal ≡ opening_calls ++ between ++ Finish ∷ []

-- each item was worked on, and the results are the sequential answer
pub record IsWhole (work : Workload) (future : Future (List ℕ)) (calls : List ℕ) : Type 0 where
  pub good : bad_indexes work ≡ []
  pub called : (index : ℕ) → index < size_of work → times_called calls index ≡ 1
  pub tiled : Tiles (reported_ranges future) (size_of work)
  pub results : IsFirstResults (results_of future) (kept_texts work)

-- a cancel is of a pass that is none of the engine's own
pub record IsOfOthers (makers : ℕ) (logged : Logged (List ℕ)) : Type 0 where
  pub others : logged.entry.call ≡ Cancel → makers ≤ logged.entry.caller

-- what a pass of the engine's own called is what such a pass makes
pub record IsOfEngine (kind : Kind) (terms : Terms) (logged : Logged (List ℕ)) : Type 0 where
  pub own : logged.entry.caller < terms.makers → IsTrue (engine_makes kind terms logged.entry.call)

-- a function after more calls: it makes of an item what it made before
pub record Continues {F : Type 0} (value : F → List ℕ → ItemValue) (called : F → List ℕ) (before after : F) : Type 0 where
  pub same : value after ≡ value before
  pub later : List ℕ
  pub calls : called after ≡ called before ++ later

-- each of these functions continues the one at its place
abbrev pub AreContinued : {F : Type 0} → (F → List ℕ → ItemValue) → (F → List ℕ) → (before after : List F) → Type 0
AreContinued value called [] [] = Unit {0}
AreContinued value called (before ∷ earlier) (after ∷ others) =
    Continues value called before after × AreContinued value called earlier others
AreContinued value called _ _ = ⊥

-- all calls of these functions, one list after the other
abbrev pub calls_of : {F : Type 0} → (F → List ℕ) → List F → List ℕ
calls_of called functions = flat_map called functions

-- what is true of the future and of all calls of the functions
pub record IsWorkedOut (work : Workload) (sizes : List ℕ) (kind : Kind) (terms : Terms)
    (journal : List (Logged (List ℕ))) (calls : List ℕ) : Type 0 where
  pub lawful : IsJournal terms journal
  pub opened : IsOpenedAndFinished journal
  pub once : AreCalledOnce work calls
  -- what was reported
  pub texts : All (HasTexts work) (reports_of journal)
  pub apart : (index : ℕ) → times_covered (reported_ranges (future_at terms journal)) index ≤ 1
  pub within : (index : ℕ) → size_of work ≤ index
      → times_covered (reported_ranges (future_at terms journal)) index ≡ 0
  pub blocks : All (IsBlock (size_of work) sizes) (reported_ranges (future_at terms journal))
  pub covered : (index : ℕ) → times_covered (reported_ranges (future_at terms journal)) index
      ≤ times_called calls index
  pub good : All (λ range. first_bad work range ≡ None) (reported_ranges (future_at terms journal))
  -- how it ended
  pub failing : (failure : Failure) → failure_of (future_at terms journal) ≡ Some failure → IsFailing work failure
  pub failed_call : (failure : Failure) → failure_of (future_at terms journal) ≡ Some failure
      → times_called calls failure.index ≡ 1
  pub own : All (IsOfEngine kind terms) journal
  pub canceled : All (IsOfOthers terms.makers) journal
  pub whole : (flags_of (future_at terms journal)).canceled ≡ false → IsWhole work (future_at terms journal) calls

-- What is known of an engine once all of its desks are brought in. (Own.)
use Rattle.std.specs.Prelude.{◌≡◌, ◌+◌, ◌<◌, ◌≤◌, ℕ, false, List, [], ◌∷◌, ◌++◌, All, map}
use Rattle.qtc_base.specs.Ranges.{Tiles, times_covered}
use Rattle.qtc_claim.specs.Claims.{Addition, claims_of, clipped, gave}
use Rattle.qtc_claim.specs.Counter.{CounterId, HasAll, IsGathered, KnowsClaims, TallyState}
use Rattle.qtc_events.specs.declared.calls.Call.TheVariants.{Finish}
use Rattle.qtc_future.specs.Future.{Logged, reports_of}
use Rattle.qtc_shared.specs.Journals.{BeginsWith, IsJournal, calls_by, flags_at}
use Rattle.qtc_shared.specs.Parts.{Terms}
use Rattle.qtc_kernel.specs.EngineParts.{IsBoardCall, IsOwnCall, ranges_by}
use Rattle.qtc_kernel.specs.OwnPasses.{is_reduced, opening, own_passes}
use Rattle.qtc_kernel.specs.Runs.{range_of, times_called}
use Rattle.qtc_kernel.specs.WorkedOut.{IsWorkedOut}
use Rattle.qtc_kernel.specs.Workload.{Workload, size_of}
use Rattle.qtc_kernel.specs.declared.kinds.Kind.{Kind}

-- no report covers an index of the claim
abbrev pub IsUncovered : ℕ → List (Logged (List ℕ)) → Addition → Type 0
IsUncovered n journal claim =
    (index : ℕ) → (clipped n claim).0 ≤ index → index < (clipped n claim).1
    → times_covered (map range_of (reports_of journal)) index ≡ 0

-- what the desks and the board of an engine of a plain kind keep, put together: of the journal up to the finish, the
-- counter's tally, and all calls
pub record AreBroughtIn (work : Workload) (sizes : List ℕ) (kind : Kind) (terms : Terms)
    (journal : List (Logged (List ℕ))) (counter : CounterId) (tally : TallyState) (calls : List ℕ) : Type 0 where
  pub plain : is_reduced kind ≡ false
  pub indexes : counter.n ≡ size_of work
  pub makers : terms.makers ≡ own_passes kind counter.workers
  pub opened : BeginsWith journal opening
  -- whose calls they are: those of the desks, and those of the board
  pub own : (number : ℕ) → number < counter.workers
      → All (IsOwnCall kind terms work false calls) (calls_by number journal)
  pub reports : All (IsBoardCall terms false work counter.n sizes tally.pieces) (calls_by counter.workers journal)
  -- what is gathered
  pub of : tally.of ≡ counter
  pub gathered : IsGathered counter tally
  pub knows : KnowsClaims tally
  pub all : HasAll tally
  -- what was called: what was claimed, but for claims that no report covers
  pub left : List Addition
  pub uncovered : All (IsUncovered counter.n journal) left
  pub most : (index : ℕ) → times_called calls index
      ≤ times_covered (map (clipped counter.n) (claims_of tally.workers)) index
  pub least : (index : ℕ) → times_covered (map (clipped counter.n) (gave counter.n (claims_of tally.workers))) index
      ≤ times_called calls index + times_covered (map (clipped counter.n) left) index
  -- where nothing was canceled, the engine's end came to this
  pub tiled : (flags_at journal).canceled ≡ false → Tiles (ranges_by counter.workers journal) counter.n

abbrev pub DesksAreWorkedOut : Type 0
DesksAreWorkedOut = (work : Workload) (sizes : List ℕ) (kind : Kind) (terms : Terms)
    (journal : List (Logged (List ℕ))) (counter : CounterId) (tally : TallyState) (calls : List ℕ)
    (finish : Logged (List ℕ)) →
    AreBroughtIn work sizes kind terms journal counter tally calls → finish.entry.call ≡ Finish →
    IsJournal terms (journal ++ finish ∷ []) → IsWorkedOut work sizes kind terms (journal ++ finish ∷ []) calls

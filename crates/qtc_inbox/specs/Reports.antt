-- What is said of the journal to which pieces are reported. (Own.)
use Rattle.std.specs.Prelude.{◌≡◌, ◌⊎◌, ◌||◌, ◌==◌, ◌&&◌, not, ℕ, Bool, true, false, List, ◌∷◌, All, Contains, IsTrue, map}
use Rattle.std.specs.List.{list_any}
use Rattle.qtc_claim.specs.Claims.{Addition, clipped}
use Rattle.qtc_events.specs.Flags.{Standing}
use Rattle.qtc_events.specs.declared.calls.Call.{Call}
use Rattle.qtc_events.specs.declared.calls.Call.TheVariants.{Report, ReportSuspended, Resume, Cancel}
use Rattle.qtc_future.specs.Future.{Logged, batches_in, reports_of}
use Rattle.qtc_shared.specs.Journals.{calls_by, flags_at}
use Rattle.qtc_shared.specs.Passes.{PassState}
use Rattle.qtc_store.specs.Batches.{end_of}
use Rattle.qtc_store.specs.declared.batch.Batch.{Batch}
use Rattle.qtc_inbox.specs.declared.entry.Cell.{Cell}
use Rattle.qtc_inbox.specs.Entries.{IsGood, cells_of, values_in}

abbrev pub is_report : Call → Bool
is_report (Report begin kept total) = true
is_report _ = false

-- Canceled or Finished stands
abbrev pub shows_end : Standing → Bool
shows_end flags = flags.canceled || flags.finished

module _ {V : Type 0} where
  abbrev pub range_of : Batch V → ℕ × ℕ
  range_of batch = (batch.begin, end_of batch)

  -- the ranges of the batches that passes of this number reported
  abbrev pub ranges_by : ℕ → List (Logged V) → List (ℕ × ℕ)
  ranges_by number journal = map range_of (reports_of (calls_by number journal))

  -- a report of another number
  abbrev pub is_strange : ℕ → Logged V → Bool
  is_strange number logged = is_report logged.entry.call && not (logged.entry.caller == number)

  -- Canceled or Finished stands at the journal that the pass knows
  abbrev pub KnowsEnd : PassState V → Type 0
  KnowsEnd pass = IsTrue (shows_end (flags_at pass.known))

  -- it stands there, or stood where the pass has looked since
  abbrev pub HasMetEnd : PassState V → Type 0
  HasMetEnd pass = IsTrue (list_any shows_end (flags_at pass.known ∷ pass.seen))

  -- each of these claims was reported by this number
  abbrev pub AreReported : (n number : ℕ) → List Addition → List (Logged V) → Type 0
  AreReported n number claims journal = All (λ claim. Contains (ranges_by number journal) (clipped n claim)) claims

  -- the claim was reported by this number; or an end stands; or there is a report of another number
  abbrev pub IsHandedIn : (n number : ℕ) → List (Logged V) → Addition → Type 0
  IsHandedIn n number journal claim =
      Contains (ranges_by number journal) (clipped n claim)
      ⊎ IsTrue (shows_end (flags_at journal))
      ⊎ IsTrue (list_any (is_strange number) journal)

  -- the batch has the table's values of its range, none of whose indexes is bad; and that is the range of a gathered piece
  pub record IsOfPiece (n : ℕ) (table : List (Cell V)) (pieces : List Addition) (batch : Batch V) : Type 0 where
    pub good : IsGood table (range_of batch)
    pub values : batch.values ≡ values_in (cells_of table (range_of batch))
    pub gathered : Contains (map (clipped n) pieces) (range_of batch)

-- what an inbox calls: it reports, and where a suspension is reached it tells so and resumes; it cancels for want of memory
abbrev pub is_own : Call → Bool
is_own (Report begin kept total) = true
is_own ReportSuspended = true
is_own Resume = true
is_own Cancel = true
is_own _ = false

pub record IsOwnCall {V : Type 0} (n : ℕ) (table : List (Cell V)) (pieces : List Addition) (logged : Logged V) : Type 0 where
  pub own : IsTrue (is_own logged.entry.call)
  pub reports : All (IsOfPiece n table pieces) (batches_in logged)

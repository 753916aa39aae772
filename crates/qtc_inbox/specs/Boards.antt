-- What is true of the board of an inbox: the place that takes, the tally, the pass that reports, and whether all gathered
-- pieces were reported. (Own.)
use Rattle.std.specs.Prelude.{◌≡◌, ◌↔◌, ◌<◌, ℕ, Bool, false, List, [], ◌++◌, All, Contains, IsTrue}
use Rattle.qtc_claim.specs.Claims.{Addition, IsWithinLimits}
use Rattle.qtc_claim.specs.Counter.{IsGathered, TallyState}
use Rattle.qtc_future.specs.Future.{Logged, reports_of}
use Rattle.qtc_shared.specs.Journals.{BeginsWith, calls_by}
use Rattle.qtc_lock.specs.Lock.{no_table}
use Rattle.qtc_shared.specs.Passes.{PassState, pass_at}
use Rattle.qtc_shared.specs.Rule.{no_terms}
use Rattle.qtc_inbox.specs.Entries.{IsFull}
use Rattle.qtc_inbox.specs.Line.{LineId, PlaceState}
use Rattle.qtc_inbox.specs.Parts.{LineKey}
use Rattle.qtc_inbox.specs.Rule.{no_key}
use Rattle.qtc_inbox.specs.Reports.{AreReported, IsHandedIn, IsOwnCall}

-- its line, what that is made for, and the pass that reports, as it was when the inbox was made
pub record InboxParts (V : Type 0) : Type 0 where
  pub line : LineId
  pub key : LineKey V
  pub pass : PassState V

module _ {V : Type 0} where
  abbrev pub parts_with : LineId → LineKey V → PassState V → InboxParts V
  parts_with line key pass = record { line = line; key = key; pass = pass }

  -- the number of the pass that reports
  abbrev pub reporter : InboxParts V → ℕ
  reporter parts = parts.pass.number

  abbrev pub indexes : InboxParts V → ℕ
  indexes parts = parts.key.counter.n

  -- a name that stands for any inbox, for a board that nobody placed
  abbrev pub no_parts : InboxParts V
  no_parts = parts_with (record { table = no_table; room = 0 }) no_key (pass_at (record { table = no_table; terms = no_terms }) 0 [])

  -- what an inbox is made for: the pass may report and has reported nothing, and where the future is no filter the table has
  -- a value for each index, or it is bad
  pub record FitTogether (key : LineKey V) (pass : PassState V) : Type 0 where
    pub limits : IsWithinLimits key.counter.n key.counter.workers
    pub maker : pass.number < pass.of.terms.makers
    pub fresh : reports_of (calls_by pass.number pass.known) ≡ []
    pub plain : pass.of.terms.filter ≡ false → IsFull key.counter.n key.table

  -- what its pass called since the inbox was made are reports of gathered pieces, and calls round a suspension; and the mark
  -- tells whether each gathered piece was reported
  pub record IsReporting (parts : InboxParts V) (tally : TallyState) (pass : PassState V) (all_reported : Bool) : Type 0 where
    pub counter : tally.of ≡ parts.key.counter
    pub gathered : IsGathered parts.key.counter tally
    pub future : pass.of ≡ parts.pass.of
    pub number : pass.number ≡ parts.pass.number
    pub children : pass.children ≡ parts.pass.children
    pub opened : BeginsWith pass.known parts.pass.known
    pub own : List (Logged V)
    pub calls : calls_by parts.pass.number pass.known ≡ calls_by parts.pass.number parts.pass.known ++ own
    pub each : All (IsOwnCall parts.key.counter.n parts.key.table tally.pieces) own
    pub mark : IsTrue all_reported ↔ AreReported parts.key.counter.n parts.pass.number tally.pieces pass.known

  -- a piece was gathered; and it was reported, or an end stands, or another number reported
  pub record IsSettled (parts : InboxParts V) (tally : TallyState) (pass : PassState V) (claim : Addition) : Type 0 where
    pub gathered : Contains tally.pieces claim
    pub handed : IsHandedIn parts.key.counter.n parts.pass.number pass.known claim

  -- each entry that was taken is settled
  pub record HasTaken (parts : InboxParts V) (place : PlaceState V) (tally : TallyState) (pass : PassState V) : Type 0 where
    pub line : place.line ≡ parts.line.table
    pub key : place.has.key ≡ parts.key
    pub settled : All (λ one. IsSettled parts tally pass one.entry.piece.addition) place.has.taken

  pub record IsBoard (parts : InboxParts V) (place : PlaceState V) (tally : TallyState) (pass : PassState V)
      (all_reported : Bool) : Type 0 where
    pub reporting : IsReporting parts tally pass all_reported
    pub taken : HasTaken parts place tally pass

  -- what was known and gathered still is, and no seat came to it
  pub record GoesFurther (old_tally : TallyState) (old_pass : PassState V) (tally : TallyState) (pass : PassState V)
      : Type 0 where
    pub known : BeginsWith pass.known old_pass.known
    pub more : List Addition
    pub pieces : tally.pieces ≡ old_tally.pieces ++ more
    pub workers : tally.workers ≡ old_tally.workers

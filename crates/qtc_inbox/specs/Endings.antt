-- How an inbox ends. (Own.)
use Rattle.std.specs.Prelude.{◌≡◌, ◌↔◌, ◌+◌, ◌≤◌, Bool, List, [], All, IfSome, IsTrue, length, map}
use Rattle.qtc_base.specs.Ranges.{Tiles}
use Rattle.qtc_claim.specs.Claims.{Worker}
use Rattle.qtc_claim.specs.Counter.{CounterId, IsEnd, IsGathered, KnowsClaims, SeatState, TallyState}
use Rattle.qtc_future.specs.Future.{Logged}
use Rattle.qtc_shared.specs.Journals.{BeginsWith}
use Rattle.qtc_shared.specs.Passes.{FutureId, PassState}
use Rattle.qtc_inbox.specs.Boards.{FitTogether, InboxParts, IsReporting}
use Rattle.qtc_inbox.specs.Inboxes.{InboxPassState, IsOpen}
use Rattle.qtc_inbox.specs.Reports.{AreReported, ranges_by}

-- the seats are all of the counter's
pub record AreSeats (counter : CounterId) (seats : List SeatState) : Type 0 where
  pub count : length seats ≡ counter.workers
  pub each : All (λ seat. seat.of ≡ counter) seats

abbrev pub workers_of : List SeatState → List Worker
workers_of seats = map (λ seat. seat.worker) seats

module _ {V : Type 0} where
  -- the passes are all of the inbox's, which has one, and none was taken in
  pub record AreAll (parts : InboxParts V) (passes : List (InboxPassState V)) : Type 0 where
    pub some : 1 ≤ length passes
    pub count : length passes + 1 ≡ parts.key.parts
    pub each : All (IsOpen parts) passes

  -- a pass at the inbox, whose place was taken in or has taken nothing
  pub record IsAt (parts : InboxParts V) (own : InboxPassState V) : Type 0 where
    pub future : own.pass.of ≡ parts.pass.of
    pub place : IfSome own.place (λ place. (place.line ≡ parts.line.table) × (place.has.taken ≡ []))

  -- the pass knows no more than this journal
  abbrev pub HasMet : List (Logged V) → InboxPassState V → Type 0
  HasMet journal own = BeginsWith journal own.pass.known

  -- all is claimed and gathered, and each gathered piece was reported and accepted
  pub record HasEnded (parts : InboxParts V) (tally : TallyState) (journal : List (Logged V)) : Type 0 where
    pub end : IsEnd tally
    pub reported : AreReported parts.key.counter.n parts.pass.number tally.pieces journal

  -- what the end of an inbox comes to: its tally with all seats, the journal that the passes met, and the answer
  pub record IsEnding (parts : InboxParts V) (passes : List (InboxPassState V)) (seats : List SeatState) (ended : Bool)
      : Type 0 where
    pub tally : TallyState
    pub of : tally.of ≡ parts.key.counter
    pub workers : tally.workers ≡ workers_of seats
    pub gathered : IsGathered parts.key.counter tally
    pub knows : KnowsClaims tally
    pub pass : PassState V
    pub all_reported : Bool
    pub reporting : IsReporting parts tally pass all_reported
    pub met : All (HasMet pass.known) passes
    pub ended_is : IsTrue ended ↔ HasEnded parts tally pass.known
    pub tiles : IsTrue ended → Tiles (ranges_by parts.pass.number pass.known) parts.key.counter.n

  -- what is said of a pass that reports stays true of it, as pieces are gathered that aren't reported
  abbrev pub KeepsReporting : CounterId → (old : TallyState) → (old_mark : Bool) → (new : TallyState) → (new_mark : Bool)
      → PassState V → Type 0
  KeepsReporting counter old old_mark new new_mark pass =
      (parts : InboxParts V) → parts.key.counter ≡ counter → FitTogether parts.key parts.pass
      → IsReporting parts old pass old_mark → IsReporting parts new pass new_mark

  -- what a closed inbox gives: its future, its pass and its counter, and the tally. What the pass called are reports of
  -- gathered pieces, and the mark says whether each gathered piece was reported
  pub record IsClosed (parts : InboxParts V) (future : FutureId) (pass : PassState V) (counter : CounterId)
      (tally : TallyState) : Type 0 where
    pub future_is : future ≡ parts.pass.of
    pub counter_is : counter ≡ parts.key.counter
    pub all_reported : Bool
    pub reporting : IsReporting parts tally pass all_reported

-- What contracts see of an inbox and of the passes at it. (Own.)
use Rattle.std.specs.Prelude.{◌≡◌, ◌+◌, ◌-◌, ◌<◌, ◌≤◌, ℕ, List, [], ◌++◌, All, IsSome, Option, None, Some, map}
use Rattle.qtc_claim.specs.Claims.{Addition, MeetNowhere}
use Rattle.qtc_claim.specs.Counter.{CounterId, PieceState, TallyState, new_tally}
use Rattle.qtc_future.specs.Future.{Logged}
use Rattle.qtc_shared.specs.Journals.{calls_by}
use Rattle.qtc_shared.specs.Passes.{IsHold, PassState, Stays}
use Rattle.crossbeam_queue.specs.Fifo.{Held}
use Rattle.qtc_inbox.specs.declared.entry.Cell.{Cell}
use Rattle.qtc_inbox.specs.declared.entry.Entry.{Entry}
use Rattle.qtc_inbox.specs.declared.posted.Posted.{Posted}
use Rattle.qtc_inbox.specs.declared.posted.Posted.TheVariants.{Queued, Drained}
use Rattle.qtc_inbox.specs.declared.rule.View.{View}
use Rattle.atomic_table.specs.Seated.{TableId}
use Rattle.qtc_lock.specs.Lock.{no_table}
use Rattle.qtc_inbox.specs.Boards.{InboxParts}
use Rattle.qtc_inbox.specs.Line.{PlaceState, place_at}
use Rattle.qtc_inbox.specs.Parts.{LineKey}
use Rattle.qtc_inbox.specs.Reports.{IsHandedIn, IsOwnCall, KnowsEnd}
use Rattle.qtc_inbox.specs.Rule.{Knows, Puts, spent_view}

-- a pass at an inbox: its place at the line, or none once the inbox's end took that in, and its pass of the future
pub record InboxPassState (V : Type 0) : Type 0 where
  pub place : Option (PlaceState V)
  pub pass : PassState V

-- the piece is of the counter and has an index
pub record IsPieceOf (counter : CounterId) (piece : PieceState) : Type 0 where
  pub of : piece.of ≡ counter
  pub below : piece.addition.begin < counter.n
  pub some : 1 ≤ piece.addition.size

-- a tally of the counter that gathered nothing
abbrev pub IsNewTally : CounterId → TallyState → Type 0
IsNewTally counter tally = tally ≡ new_tally counter

module _ {V : Type 0} where
  -- what an inbox with so many passes is for: a place for each of them, and one that takes
  abbrev pub key_with : CounterId → List (Cell V) → (passes : ℕ) → LineKey V
  key_with counter table passes = record { counter = counter; table = table; parts = passes + 1 }

  abbrev pub less_parts : ℕ → View V → View V
  less_parts count view = record view { parts = view.parts - count }

  -- passes at a line with such a place each
  abbrev pub inbox_passes : TableId → View V → List (PassState V) → List (InboxPassState V)
  inbox_passes line has passes = map (λ pass. record { place = Some (place_at line has); pass = pass }) passes

  abbrev pub entry_of : PieceState → List V → Entry V
  entry_of piece values = record { piece = piece; values = values }

  abbrev pub place_in : Option (PlaceState V) → PlaceState V
  place_in None = place_at no_table spent_view
  place_in (Some place) = place

  abbrev pub place_of : InboxPassState V → PlaceState V
  place_of pass = place_in pass.place

  -- a pass at this inbox that wasn't taken in
  pub record IsOpen (parts : InboxParts V) (pass : InboxPassState V) : Type 0 where
    pub is_in : IsSome pass.place
    pub line : (place_of pass).line ≡ parts.line.table
    pub key : (place_of pass).has.key ≡ parts.key
    pub one : (place_of pass).has.parts ≡ 1
    pub none_taken : (place_of pass).has.taken ≡ []
    pub future : pass.pass.of ≡ parts.pass.of

  -- the calls of the inbox's pass in a journal: those that it knew when the inbox was made; and reports, each of a piece that
  -- was gathered, with the table's values, and calls round a suspension
  pub record KnowsReports (parts : InboxParts V) (known : List (Logged V)) : Type 0 where
    pub pieces : List Addition
    pub apart : MeetNowhere parts.key.counter.n pieces
    pub own : List (Logged V)
    pub calls : calls_by parts.pass.number known ≡ calls_by parts.pass.number parts.pass.known ++ own
    pub each : All (IsOwnCall parts.key.counter.n parts.key.table pieces) own

  -- a piece was posted: it went to the back of the line, in one step, and nothing else changed;
  pub record IsQueued (old new : InboxPassState V) (entry : Entry V) : Type 0 where
    pub put : Puts (place_of old).has entry (place_of new).has
    pub pass : new.pass ≡ old.pass

  -- or the line was full at one moment, and the piece was reported after some that were drained
  pub record IsReportedAtOnce (parts : InboxParts V) (old new : InboxPassState V) (piece : PieceState) (count : ℕ)
      : Type 0 where
    pub full : Held parts.line.room (Knows (place_of old).has)
    pub place : new.place ≡ old.place
    pub hold : IsHold old.pass new.pass Stays
    pub handed : IsHandedIn parts.key.counter.n parts.pass.number new.pass.known piece.addition
    pub some : 1 ≤ count
    pub few : count ≤ parts.line.room + 1

  abbrev pub HasPosted : InboxParts V → (old new : InboxPassState V) → PieceState → List V → Posted → Type 0
  HasPosted parts old new piece values Queued = IsQueued old new (entry_of piece values)
  HasPosted parts old new piece values (Drained count) = IsReportedAtOnce parts old new piece count

  -- memory was wanted: the future is canceled, and the pass knows it
  pub record HasCanceled (parts : InboxParts V) (old new : InboxPassState V) : Type 0 where
    pub full : Held parts.line.room (Knows (place_of old).has)
    pub place : new.place ≡ old.place
    pub hold : IsHold old.pass new.pass Stays
    pub ended : KnowsEnd new.pass

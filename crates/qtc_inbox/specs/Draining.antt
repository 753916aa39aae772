-- What a report of an entry and a drain of the line do to a board. (Own.)
use Rattle.std.specs.Prelude.{◌≡◌, ◌+◌, ◌<◌, ℕ, Bool, true, false, List, [], ◌∷◌, ◌++◌, All, IsTrue, length}
use Rattle.qtc_claim.specs.Claims.{Addition, clipped}
use Rattle.qtc_claim.specs.Counter.{TallyState}
use Rattle.qtc_future.specs.Future.{Logged}
use Rattle.qtc_shared.specs.Journals.{BeginsWith, calls_by}
use Rattle.qtc_shared.specs.Passes.{PassState}
use Rattle.crossbeam_queue.specs.Fifo.{Held}
use Rattle.qtc_inbox.specs.declared.entry.Entry.{Entry}
use Rattle.qtc_inbox.specs.declared.rule.View.{View}
use Rattle.qtc_inbox.specs.Boards.{GoesFurther, InboxParts, IsSettled}
use Rattle.qtc_inbox.specs.Line.{PlaceState}
use Rattle.qtc_inbox.specs.Reports.{IsHandedIn, is_own, is_report, ranges_by}
use Rattle.qtc_inbox.specs.Rule.{Knows, Takes}

-- where the report is accepted, its range comes to those reported
abbrev pub comes_to : Bool → (before : List (ℕ × ℕ)) → ℕ × ℕ → List (ℕ × ℕ)
comes_to true before range = before ++ range ∷ []
comes_to false before range = before

-- what a place has, and the ranges that were reported
pub record DrainState (V : Type 0) : Type 0 where
  pub has : View V
  pub reported : List (ℕ × ℕ)

module _ {V : Type 0} where
  -- a call that is no report: one round a suspension, or a cancel
  pub record IsBeside (logged : Logged V) : Type 0 where
    pub own : IsTrue (is_own logged.entry.call)
    pub other : is_report logged.entry.call ≡ false

  -- a pass made such calls and no others
  pub record CallsBeside (number : ℕ) (old new : PassState V) : Type 0 where
    pub of : new.of ≡ old.of
    pub number_is : new.number ≡ old.number
    pub children : new.children ≡ old.children
    pub begins : BeginsWith new.known old.known
    pub calls : List (Logged V)
    pub own : calls_by number new.known ≡ calls_by number old.known ++ calls
    pub beside : All IsBeside calls

  -- a piece was gathered in the hold in which it was reported: its range came to those reported, or the report was not
  -- accepted; and where it wasn't, an end stands, or another number reported
  pub record ReportsOne (parts : InboxParts V) (old_tally : TallyState) (old_pass : PassState V) (tally : TallyState)
      (pass : PassState V) (piece : Addition) : Type 0 where
    pub further : GoesFurther old_tally old_pass tally pass
    pub settled : IsSettled parts tally pass piece
    pub accepted : Bool
    pub ranges : ranges_by parts.pass.number pass.known
        ≡ comes_to accepted (ranges_by parts.pass.number old_pass.known) (clipped parts.key.counter.n piece)

  abbrev pub drain_at : InboxParts V → PlaceState V → PassState V → DrainState V
  drain_at parts place pass = record { has = place.has; reported = ranges_by parts.pass.number pass.known }

  -- the front entry was taken and reported
  pub record TakesOne (n : ℕ) (before : DrainState V) (entry : Entry V) (after : DrainState V) : Type 0 where
    pub takes : Takes before.has entry after.has
    pub accepted : Bool
    pub ranges : after.reported ≡ comes_to accepted before.reported (clipped n entry.piece.addition)

  -- entries were taken and reported, one after the other
  abbrev pub Drains : ℕ → DrainState V → List (Entry V) → DrainState V → Type 0
  Drains n before [] after = after ≡ before
  Drains n before (entry ∷ entries) after =
      (between : DrainState V) × TakesOne n before entry between × Drains n between entries after

  -- whether there was an entry: then it was drained; else nothing changed, and the line was empty at one moment
  abbrev pub TakesSome : InboxParts V → (old : PlaceState V) (old_pass : PassState V) → (new : PlaceState V) (new_pass : PassState V)
      → Bool → Type 0
  TakesSome parts old old_pass new new_pass true = (entry : Entry V)
      × TakesOne parts.key.counter.n (drain_at parts old old_pass) entry (drain_at parts new new_pass)
  TakesSome parts old old_pass new new_pass false =
      (drain_at parts new new_pass ≡ drain_at parts old old_pass) × Held 0 (Knows old.has)

  -- so many entries were drained
  pub record DrainsSome (n : ℕ) (before after : DrainState V) (count : ℕ) : Type 0 where
    pub entries : List (Entry V)
    pub count_is : length entries ≡ count
    pub drains : Drains n before entries after

  -- what a drain of the line comes to: so many entries were drained, in their order, and where that were fewer than there is
  -- room for, the line was empty at one moment
  pub record DrainsAll (parts : InboxParts V) (old : PlaceState V) (old_pass : PassState V) (new : PlaceState V)
      (new_pass : PassState V) (count : ℕ) : Type 0 where
    pub some : DrainsSome parts.key.counter.n (drain_at parts old old_pass) (drain_at parts new new_pass) count
    pub empty : count < parts.line.room → Held 0 (Knows new.has)

  -- a drain of the line, and then a report of a piece that wasn't queued
  pub record DrainsThen (parts : InboxParts V) (old : PlaceState V) (old_pass : PassState V) (new : PlaceState V)
      (new_pass : PassState V) (piece : Addition) (count : ℕ) : Type 0 where
    pub drained : ℕ
    pub is_count : count ≡ drained + 1
    pub between : PassState V
    pub drains : DrainsAll parts old old_pass new between drained
    pub accepted : Bool
    pub ranges : ranges_by parts.pass.number new_pass.known
        ≡ comes_to accepted (ranges_by parts.pass.number between.known) (clipped parts.key.counter.n piece)
    pub handed : IsHandedIn parts.key.counter.n parts.pass.number new_pass.known piece

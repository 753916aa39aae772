-- What the parts of an engine's end come to. (Own.)
use Rattle.std.specs.Prelude.{◌≡◌, ◌↔◌, ℕ, Bool, List, [], ◌∷◌, ◌++◌, All, IsTrue, map}
use Rattle.qtc_base.specs.Ranges.{Tiles}
use Rattle.qtc_claim.specs.Claims.{Worker}
use Rattle.qtc_claim.specs.Counter.{HasAll, IsGathered, KnowsClaims, SeatState, TallyState}
use Rattle.qtc_events.specs.declared.calls.Call.TheVariants.{Finish}
use Rattle.qtc_future.specs.Future.{Logged}
use Rattle.qtc_future.specs.Steps.{by_row}
use Rattle.qtc_ops.specs.ItemValue.{ItemValue}
use Rattle.qtc_shared.specs.Journals.{BeginsWith, IsJournal}
use Rattle.qtc_shared.specs.Parts.{future_at}
use Rattle.qtc_shared.specs.Passes.{Meets, PassState}
use Rattle.qtc_kernel.specs.EngineParts.{EngineParts, DeskState, IsBoard, ranges_by, reporter}
use Rattle.qtc_kernel.specs.Gathering.{HasEnded}

-- the desk's pass knows no more than this journal, and saw nothing since
pub record IsMet {F : Type 0} (journal : List (Logged (List ℕ))) (desk : DeskState F) : Type 0 where
  pub known : BeginsWith journal desk.pass.known
  pub unseen : desk.pass.seen ≡ []

-- the workers of desks
abbrev pub workers_at : {F : Type 0} → List (DeskState F) → List Worker
workers_at desks = map (λ desk. desk.seat.worker) desks

-- the functions at desks
abbrev pub functions_at : {F : Type 0} → List (DeskState F) → List F
functions_at desks = map (λ desk. desk.function) desks

-- which of them wanted memory
abbrev pub wants_at : {F : Type 0} → List (DeskState F) → List Bool
wants_at desks = map (λ desk. desk.wants_memory) desks

-- the pass knows what it knew, and none was made from it meanwhile
pub record KnowsTheSame (old new : PassState (List ℕ)) : Type 0 where
  pub of : new.of ≡ old.of
  pub known : new.known ≡ old.known
  pub children : new.children ≡ old.children

-- a seat is gathered
abbrev pub with_seat : SeatState → TallyState → TallyState
with_seat seat tally = record tally { workers = tally.workers ++ seat.worker ∷ [] }

-- the desks' seats are gathered, and the pass of each met this journal
pub record AreGathered {F : Type 0} (journal : List (Logged (List ℕ))) (old new : TallyState)
    (desks : List (DeskState F)) : Type 0 where
  pub of : new.of ≡ old.of
  pub workers : new.workers ≡ old.workers ++ workers_at desks
  pub pieces : new.pieces ≡ old.pieces
  pub met : All (λ desk. Meets desk.pass journal) desks

-- the future was finished at a journal that the first desk's pass met; what the others have was brought in to the
-- journal that is then known; all seats are gathered; and it was asked whether the work is at its end
pub record AreSettled {F : Type 0} (value : F → List ℕ → ItemValue) (parts : EngineParts F) (first : DeskState F)
    (others : List (DeskState F)) (known : List (Logged (List ℕ))) (ended : Bool) : Type 0 where
  pub journal : List (Logged (List ℕ))
  pub met : Meets first.pass journal
  pub finished : future_at first.pass.of.terms known
      ≡ (by_row (future_at first.pass.of.terms journal) first.pass.number Finish []).future
  pub lawful : IsJournal first.pass.of.terms known
  pub others_met : All (λ desk. Meets desk.pass known) others
  -- the tally before, beside the board's pass where it knows the finish
  pub before : TallyState
  pub board : PassState (List ℕ)
  pub mark : Bool
  pub board_is : IsBoard value parts before board mark
  pub board_knows : board.known ≡ known
  pub tally : TallyState
  pub gathered : IsGathered parts.counter tally
  pub knows : HasAll tally → KnowsClaims tally
  pub of : tally.of ≡ before.of
  pub workers : tally.workers ≡ before.workers ++ workers_at (first ∷ others)
  pub pieces : tally.pieces ≡ before.pieces
  -- the answer, and what it carries
  pub ended_is : IsTrue ended ↔ HasEnded tally (reporter parts) known
  pub tiles : IsTrue ended → Tiles (ranges_by (reporter parts) known) parts.counter.n

-- What one turn of a worker does to its desk. (After Qt's IterateKernel; own.)
use Rattle.std.specs.Prelude.{◌≡◌, ◌+◌, ◌<◌, ◌≤◌, ◌⊎◌, ◌↔◌, ℕ, Bool, true, false, List, [], ◌∷◌, ◌++◌, None, Some, Contains, IsTrue, slice_index}
use Rattle.std.specs.List.{list_any}
use Rattle.qtc_claim.specs.Claims.{Addition, after_load, clipped}
use Rattle.qtc_claim.specs.Counter.{ClaimsNone, LoadsAndAdds}
use Rattle.qtc_events.specs.Flags.{Standing}
use Rattle.qtc_future.specs.Steps.{Effect}
use Rattle.qtc_future.specs.declared.requests.Request.{Request}
use Rattle.qtc_future.specs.declared.requests.Request.TheVariants.{Cancel, Fail}
use Rattle.qtc_ops.specs.ItemValue.{ItemValue}
use Rattle.qtc_shared.specs.Journals.{BeginsWith}
use Rattle.qtc_shared.specs.Passes.{IsHold, IsLook, IsResumed, Makes, PassState}
use Rattle.qtc_kernel.specs.EngineParts.{EngineParts, DeskState, HasMetEnd, IsDesk, KnowsEnd, is_strange, ranges_by, reporter, shows_end, work_of}
use Rattle.qtc_kernel.specs.WorkedOut.{Continues}
use Rattle.qtc_kernel.specs.Workload.{first_bad, indexes_of, item_at}
use Rattle.qtc_kernel.specs.declared.turn.Turn.{Turn}
use Rattle.qtc_kernel.specs.declared.turn.Turn.TheVariants.{Did, Exhausted, SawCanceled, Failed, Memory}

-- the pass goes on: it knows all that it knew, and an end that it met; where it knew one, no report comes to it
pub record GoesOn (old new : PassState (List ℕ)) : Type 0 where
  pub of : new.of ≡ old.of
  pub number : new.number ≡ old.number
  pub children : new.children ≡ old.children
  pub known : BeginsWith new.known old.known
  pub ends : HasMetEnd old → HasMetEnd new
  pub ended : KnowsEnd old → (number : ℕ) → ranges_by number new.known ≡ ranges_by number old.known

-- the pass looked in this call, and its last look showed neither an end nor a suspension
pub record LooksFree (old new : PassState (List ℕ)) : Type 0 where
  pub looks : List Standing
  pub last : Standing
  pub grown : new.looks ≡ old.looks ++ looks ++ last ∷ []
  pub going : shows_end last ≡ false
  pub resumed : IsResumed last

-- it looked in this call, and its last look showed an end
pub record LooksEnded (old new : PassState (List ℕ)) : Type 0 where
  pub looks : List Standing
  pub last : Standing
  pub grown : new.looks ≡ old.looks ++ looks ++ last ∷ []
  pub ended : IsTrue (shows_end last)

-- on its way the pass made this call of the future, with an effect or without
pub record HasMade (old new : PassState (List ℕ)) (request : Request (List ℕ)) : Type 0 where
  pub before : PassState (List ℕ)
  pub after : PassState (List ℕ)
  pub effect : Bool
  pub earlier : GoesOn old before
  pub made : IsHold before after (Makes before request (Effect effect))
  pub later : GoesOn after new

module _ {F : Type 0} (value : F → List ℕ → ItemValue) (called : F → List ℕ) (parts : EngineParts F) where
  -- one claim more, of the size whose turn it was, which gave this range
  pub record ClaimsRange (old new : DeskState F) (range : ℕ × ℕ) : Type 0 where
    pub claim : Addition
    pub added : LoadsAndAdds (slice_index parts.sizes old.next_size) old.seat.worker claim new.seat.worker
    pub below : claim.begin < parts.counter.n
    pub range_is : range ≡ clipped parts.counter.n claim

  -- the function was called on the indexes of a range, ascending, and on no others
  abbrev pub Calls : (old new : DeskState F) → ℕ × ℕ → Type 0
  Calls old new range = called new.function ≡ called old.function ++ indexes_of range

  -- a block was claimed, worked on and reported
  pub record DoesBlock (old new : DeskState F) (range : ℕ × ℕ) : Type 0 where
    pub looked : LooksFree old.pass new.pass
    pub claims : ClaimsRange old new range
    pub calls : Calls old new range
    pub good : first_bad (work_of value parts) range ≡ None
    pub reported : Contains (ranges_by (reporter parts) new.pass.known) range
        ⊎ IsTrue (list_any (is_strange (reporter parts)) new.pass.known)

  -- nothing was left to claim
  pub record FindsNothing (old new : DeskState F) : Type 0 where
    pub looked : LooksFree old.pass new.pass
    pub claims : ClaimsNone parts.counter.n (slice_index parts.sizes old.next_size) old.seat.worker new.seat.worker
    pub calls : called new.function ≡ called old.function

  -- the last look showed an end, before a claim
  pub record MeetsAtLook (old new : DeskState F) : Type 0 where
    pub looked : LooksEnded old.pass new.pass
    pub seat : new.seat ≡ old.seat
    pub calls : called new.function ≡ called old.function

  -- an end stood where the values of a block came to be reported
  pub record MeetsAtReport (old new : DeskState F) : Type 0 where
    pub looked : LooksFree old.pass new.pass
    pub range : ℕ × ℕ
    pub claims : ClaimsRange old new range
    pub calls : Calls old new range
    pub good : first_bad (work_of value parts) range ≡ None
    pub ended : KnowsEnd new.pass

  -- an end was met: before a claim, or as the values of a block came to be reported
  pub record MeetsEnd (old new : DeskState F) : Type 0 where
    pub met : HasMetEnd new.pass
    pub when : MeetsAtLook old new ⊎ MeetsAtReport old new

  -- the first bad item of a block was found, and the future was told to fail with it
  pub record FindsBad (old new : DeskState F) (index : ℕ) : Type 0 where
    pub looked : LooksFree old.pass new.pass
    pub range : ℕ × ℕ
    pub claims : ClaimsRange old new range
    pub first : first_bad (work_of value parts) range ≡ Some index
    pub calls : Calls old new (range.0, index + 1)
    pub fails : HasMade old.pass new.pass (Fail index (item_at (work_of value parts) index))
    pub met : HasMetEnd new.pass

  -- memory was wanted for a block, of which a front was called; the future was told to cancel
  pub record WantsMemory (old new : DeskState F) : Type 0 where
    pub looked : LooksFree old.pass new.pass
    pub range : ℕ × ℕ
    pub claims : ClaimsRange old new range
    pub at : ℕ
    pub front : (range.0 ≤ at) × (at ≤ range.1)
    pub calls : Calls old new (range.0, at)
    pub cancels : HasMade old.pass new.pass Cancel
    pub met : HasMetEnd new.pass

  -- what each answer of a turn says
  abbrev pub IsTurn : (old new : DeskState F) → Turn → Type 0
  IsTurn old new (Did range) = DoesBlock old new (range.begin, range.end)
  IsTurn old new Exhausted = FindsNothing old new
  IsTurn old new SawCanceled = MeetsEnd old new
  IsTurn old new (Failed index) = FindsBad old new index
  IsTurn old new Memory = WantsMemory old new

-- whether a further worker would find something to do: an index is left, Canceled doesn't stand, and fewer than all
-- workers are in, each as one load of this call shows it
pub record MayStart {F : Type 0} (parts : EngineParts F) (old new : DeskState F) (answer : Bool) : Type 0 where
  pub counter : new.seat.worker ≡ after_load new.seat.worker.seen old.seat.worker
  pub flags : Standing
  pub future : IsLook old.pass new.pass flags
  pub count : ℕ
  pub active : new.badge ≡ record old.badge { seen = old.badge.seen ++ count ∷ [] }
  pub exactly : IsTrue answer
      ↔ ((new.seat.worker.seen < parts.counter.n) × (flags.canceled ≡ false) × (count < parts.counter.workers))

-- the worker stays in after a block, and after no other answer
abbrev pub goes_on : Turn → Bool
goes_on (Did range) = true
goes_on _ = false

-- turns, each of which did a block, and one that answered otherwise
pub record IsLastTurn {F : Type 0} (value : F → List ℕ → ItemValue) (called : F → List ℕ) (parts : EngineParts F)
    (old new : DeskState F) (turn : Turn) : Type 0 where
  pub before : DeskState F
  pub desk : IsDesk value called parts before
  pub number : before.pass.number ≡ old.pass.number
  pub function : Continues value called old.function before.function
  pub turn_is : IsTurn value called parts before new turn
  pub over : goes_on turn ≡ false

-- whether a worker wanted memory, after one more turn
abbrev pub wants_after : Bool → Turn → Bool
wants_after wants_memory Memory = true
wants_after wants_memory _ = wants_memory

-- What the parts of a worker's turn come to. (Own.)
use Rattle.std.specs.Prelude.{◌≡◌, ◌<◌, ◌≤◌, ◌+◌, ◌⊎◌, ◌||◌, ◌&&◌, not, ℕ, Bool, true, false, List, [], ◌∷◌, ◌++◌, None, Some, Contains, IsTrue}
use Rattle.std.specs.List.{list_any}
use Rattle.qtc_claim.specs.Claims.{Addition, clipped}
use Rattle.qtc_claim.specs.Counter.{PieceState}
use Rattle.qtc_events.specs.Flags.{Standing}
use Rattle.qtc_future.specs.Future.{Logged}
use Rattle.qtc_future.specs.Steps.{Told, Dropped}
use Rattle.qtc_future.specs.declared.requests.Request.TheVariants.{Cancel, Fail}
use Rattle.qtc_ops.specs.ItemValue.{ItemValue}
use Rattle.qtc_shared.specs.Journals.{flags_at}
use Rattle.qtc_shared.specs.Passes.{PassState, having_seen}
use Rattle.qtc_kernel.specs.EngineParts.{AreHandedIn, AreOwnCalls, AreWorkedOn, EngineParts, DeskState, HasMetEnd, IsSeated, KnowsEnd, given_at, is_strange, ranges_by, reporter, shows_end, work_of}
use Rattle.qtc_kernel.specs.Turns.{Calls, HasMade, wants_after}
use Rattle.qtc_kernel.specs.Workload.{first_bad, item_at}
use Rattle.qtc_kernel.specs.declared.turn.Turn.{Turn}
use Rattle.qtc_kernel.specs.declared.turn.Turn.TheVariants.{Did, Exhausted, SawCanceled, Failed, Memory}

-- the pass has looked, and knows what it knew
pub record HasLooked (old new : PassState (List ℕ)) : Type 0 where
  pub seen : List Standing
  pub pass : new ≡ having_seen old seen

-- the piece is of the engine, has an index, and its size is one of the engine's
pub record IsPieceOf {F : Type 0} (parts : EngineParts F) (piece : PieceState) : Type 0 where
  pub of : piece.of ≡ parts.counter
  pub below : piece.addition.begin < parts.counter.n
  pub some : 1 ≤ piece.addition.size
  pub listed : Contains parts.sizes piece.addition.size

-- the indexes of a piece
abbrev pub range_in : {F : Type 0} → EngineParts F → PieceState → ℕ × ℕ
range_in parts piece = clipped parts.counter.n piece.addition

-- the range was reported by this number, or there is a report of another
abbrev pub IsReported : ℕ → List (Logged (List ℕ)) → ℕ × ℕ → Type 0
IsReported number journal range =
    Contains (ranges_by number journal) range ⊎ IsTrue (list_any (is_strange number) journal)

-- a suspension stands, and no end
abbrev pub is_waiting : Standing → Bool
is_waiting flags = (flags.suspending || flags.suspended) && not (shows_end flags)

-- told that an end stands
abbrev pub is_drop : Told → Bool
is_drop (Dropped flags) = true
is_drop _ = false

-- the values of a range, of whose items none is bad, were handed in: they were reported, or an end stands
abbrev pub IsHandedIn : ℕ → List (Logged (List ℕ)) → ℕ × ℕ → Bool → Type 0
IsHandedIn number journal range true = IsReported number journal range
IsHandedIn number journal range false = IsTrue (shows_end (flags_at journal))

-- what no part of a turn changes once the piece is claimed
pub record StaysAtWork {F : Type 0} (old new : DeskState F) (turn : Turn) : Type 0 where
  pub seat : new.seat ≡ old.seat
  pub number : new.pass.number ≡ old.pass.number
  pub looks : new.pass.looks ≡ old.pass.looks
  pub badge : new.badge ≡ old.badge
  pub wants_memory : new.wants_memory ≡ wants_after old.wants_memory turn

module _ {F : Type 0} (value : F → List ℕ → ItemValue) (called : F → List ℕ) (parts : EngineParts F) where
  -- a desk whose worker has a piece in hand, of its last claim; all claims before were worked on and handed in
  pub record IsAtWork (desk : DeskState F) (piece : PieceState) : Type 0 where
    pub seated : IsSeated value parts desk
    pub claims : List Addition
    pub last : given_at parts.counter.n desk ≡ claims ++ piece.addition ∷ []
    pub own : AreOwnCalls value called parts desk
    pub worked : AreWorkedOn parts.counter.n claims [] (called desk.function)
    pub handed : AreHandedIn parts.counter.n (reporter parts) claims desk.pass
    pub piece_is : IsPieceOf parts piece

  -- a desk that leaves its piece, of which a front was called
  pub record IsLeaving (desk : DeskState F) (piece : PieceState) : Type 0 where
    pub seated : IsSeated value parts desk
    pub own : AreOwnCalls value called parts desk
    pub part : AreWorkedOn parts.counter.n (given_at parts.counter.n desk) (piece.addition ∷ []) (called desk.function)
    pub piece_is : IsPieceOf parts piece

  -- memory was wanted for the piece in hand, of which a front was called, and the future told to cancel
  pub record HasWanted (old new : DeskState F) (range : ℕ × ℕ) : Type 0 where
    pub at : ℕ
    pub front : (range.0 ≤ at) × (at ≤ range.1)
    pub calls : Calls value called parts old new (range.0, at)
    pub cancels : HasMade old.pass new.pass Cancel
    pub met : HasMetEnd new.pass

  -- what became of the piece in hand
  abbrev pub IsWorked : (old new : DeskState F) → ℕ × ℕ → Turn → Type 0
  IsWorked old new range (Did did) =
      ((did.begin, did.end) ≡ range) × Calls value called parts old new range
      × (first_bad (work_of value parts) range ≡ None)
      × IsReported (reporter parts) new.pass.known range
  IsWorked old new range Exhausted = ⊥
  IsWorked old new range SawCanceled =
      Calls value called parts old new range × (first_bad (work_of value parts) range ≡ None) × KnowsEnd new.pass
  IsWorked old new range (Failed index) =
      Calls value called parts old new (range.0, index + 1)
      × (first_bad (work_of value parts) range ≡ Some index)
      × HasMade old.pass new.pass (Fail index (item_at (work_of value parts) index)) × HasMetEnd new.pass
  IsWorked old new range Memory = HasWanted old new range

-- what neither a fail nor a cancel changes
pub record StaysSeated {F : Type 0} (old new : DeskState F) : Type 0 where
  pub seat : new.seat ≡ old.seat
  pub number : new.pass.number ≡ old.pass.number
  pub looks : new.pass.looks ≡ old.pass.looks
  pub badge : new.badge ≡ old.badge
  pub function : new.function ≡ old.function

-- memory was wanted, and the future told to cancel
pub record HasGivenUp {F : Type 0} (old new : DeskState F) (turn : Turn) : Type 0 where
  pub stays : StaysSeated old new
  pub turn_is : turn ≡ Memory
  pub wants_memory : new.wants_memory ≡ true
  pub cancels : HasMade old.pass new.pass Cancel
  pub met : HasMetEnd new.pass

-- the future was told to fail with the item at the index
pub record HasFailed {F : Type 0} (old new : DeskState F) (index : ℕ) (item : List ℕ) (turn : Turn) : Type 0 where
  pub stays : StaysSeated old new
  pub turn_is : turn ≡ Failed index
  pub wants_memory : new.wants_memory ≡ old.wants_memory
  pub fails : HasMade old.pass new.pass (Fail index item)
  pub met : HasMetEnd new.pass

-- that, or memory was wanted
abbrev pub FailsOrWants : {F : Type 0} → (old new : DeskState F) → ℕ → List ℕ → Turn → Type 0
FailsOrWants old new index item turn = HasFailed old new index item turn ⊎ HasGivenUp old new turn

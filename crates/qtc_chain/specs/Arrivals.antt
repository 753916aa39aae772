-- What several futures came to: all of them, or the first. (After QtFuture's whenAll and whenAny; own.)
use Rattle.std.specs.Prelude.{◌≡◌, ◌↔◌, ℕ, ℤ, pos, negsuc, Bool, IsTrue, List, Option, Some, None, IsSome, All, slice_index_or, slice_set}
use Rattle.std.specs.Option.{option_or}
use Rattle.qtc_chain.specs.declared.all_state.AllArrive.{AllArrive}
use Rattle.qtc_chain.specs.declared.all_state.AllArrive.TheVariants.{Waiting, Last, Again}
use Rattle.qtc_chain.specs.declared.any_state.AnyArrive.{AnyArrive}
use Rattle.qtc_chain.specs.declared.any_state.AnyArrive.TheVariants.{First, Late}

module _ {T : Type 0} where
  -- each index has a value
  abbrev pub HaveAllArrived : List (Option T) → Type 0
  HaveAllArrived values = All IsSome values

  -- the index has a value
  abbrev pub HasArrived : ℕ → List (Option T) → Type 0
  HasArrived index values = IsSome (slice_index_or values index None)

  -- a value arrives at an index: again exactly where one arrived there before, and then it is handed back and nothing
  -- changes; else it is the last exactly where all have arrived with it
  pub record IsArrived (index : ℕ) (value : T) (old new : List (Option T)) (result : AllArrive T) : Type 0 where
    pub again : (result ≡ Again value) ↔ HasArrived index old
    pub last : (result ≡ Last) ↔ (¬ HasArrived index old × HaveAllArrived new)
    pub waits : (result ≡ Waiting) ↔ (¬ HasArrived index old × ¬ HaveAllArrived new)
    pub same : HasArrived index old → new ≡ old
    pub stored : ¬ HasArrived index old → new ≡ slice_set old index (Some value)

  -- it is asked whether all have arrived
  pub record IsAsked (old new : List (Option T)) (result : Bool) : Type 0 where
    pub all : IsTrue result ↔ HaveAllArrived old
    pub same : new ≡ old

  -- a value arrives at an index: late exactly where another arrived before, and then it is handed back
  pub record IsFirst (index : ℕ) (value : T) (old new : Option (ℕ × T)) (result : AnyArrive T) : Type 0 where
    pub first : (result ≡ First) ↔ (old ≡ None)
    pub late : (result ≡ Late value) ↔ IsSome old
    pub after : new ≡ option_or old (Some (index, value))

  -- the index and the value of the first, or -1 and none
  abbrev pub closed_any : Option (ℕ × T) → ℤ × Option T
  closed_any None = (negsuc 0, None)
  closed_any (Some first) = (pos first.0, Some first.1)

  -- what is told of the first is so of one that arrived, or of none
  abbrev pub IsClosedAny : ℤ × Option T → Type 0
  IsClosedAny told = (state : Option (ℕ × T)) × (told ≡ closed_any state)

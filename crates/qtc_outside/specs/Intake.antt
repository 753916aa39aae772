-- What contracts see of a sink, and what its calls do. (Own.)
use Rattle.std.specs.Prelude.{◌≡◌, ℕ, ◌<◌, ◌≤◌, List, ◌++◌, length, take, Option, Some, IfSome}
use Rattle.qtc_outside.specs.Counts.{Rose}

pub record Intake : Type 0 where
  -- the bytes taken so far, where the sink tells them
  pub got : Option (List ℕ)
  -- how many faults there were so far
  pub faults : ℕ

-- where it is told afterwards what was got, it was told before, and the piece came to it
abbrev pub GotMore : Option (List ℕ) → List ℕ → Option (List ℕ) → Type 0
GotMore old piece new = IfSome new (λ after. (before : List ℕ) × (old ≡ Some before) × (after ≡ before ++ piece))

-- the piece was taken, and no fault came
pub record Takes (old : Intake) (piece : List ℕ) (new : Intake) : Type 0 where
  pub got : GotMore old.got piece new.got
  pub faults : new.faults ≡ old.faults

-- a front of the piece was taken, of at least one byte
pub record TakesFront (old : Intake) (piece : List ℕ) (count : ℕ) (new : Intake) : Type 0 where
  pub some : 1 ≤ count
  pub within : count ≤ length piece
  pub takes : Takes old (take count piece) new

-- a fault came, and nothing was taken
pub record TakesNothing (old new : Intake) : Type 0 where
  pub rose : Rose old.faults new.faults
  pub got : new.got ≡ old.got

-- a fault came after a front of the piece was taken, and not the whole
pub record IsCut (old : Intake) (piece : List ℕ) (taken : ℕ) (new : Intake) : Type 0 where
  pub short : taken < length piece
  pub got : GotMore old.got (take taken piece) new.got
  pub rose : Rose old.faults new.faults

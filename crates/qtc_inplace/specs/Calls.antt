-- The calls that are made on the functions that a caller handed in. (Own.)
use Rattle.std.specs.Prelude.{◌≡◌, ◌≤◌, if◌then◌else◌, nat_lt, ℕ, List, [], ◌∷◌, ◌++◌, All, Result, Ok, Err}
use Rattle.std.specs.List.{concat}
use Rattle.std.specs.List.Sorted.{IsStrictlyIncreasing}
use Rattle.qtc_base.specs.Ranges.{times_called}
use Rattle.qtc_inplace.specs.declared.faults.InPlaceFault.{InPlaceFault}

-- the list of each function is the one before, with these calls appended
abbrev pub Appends : {F : Type 0} → (F → List ℕ) → (before after : List F) → List (List ℕ) → Type 0
Appends called [] [] [] = Unit {0}
Appends called (old ∷ before) (new ∷ after) (calls ∷ added) =
    (called new ≡ called old ++ calls) × Appends called before after added
Appends called _ _ _ = ⊥

-- what a call appended to the functions' lists: of each function ascending, of all together each index below n once
pub record CallsEach {F : Type 0} (called : F → List ℕ) (before after : List F) (n : ℕ) : Type 0 where
  pub added : List (List ℕ)
  pub appended : Appends called before after added
  pub ascending : All IsStrictlyIncreasing added
  pub once : (index : ℕ) → times_called (concat added) index ≡ (if nat_lt index n then 1 else 0)

-- the same, but that indexes may be missing
pub record CallsNoneTwice {F : Type 0} (called : F → List ℕ) (before after : List F) (n : ℕ) : Type 0 where
  pub added : List (List ℕ)
  pub appended : Appends called before after added
  pub ascending : All IsStrictlyIncreasing added
  pub most : (index : ℕ) → times_called (concat added) index ≤ (if nat_lt index n then 1 else 0)

-- after `Ok` each index was called, and none twice whatever was answered
abbrev pub Calls : {F X : Type 0} → (F → List ℕ) → (before after : List F) → ℕ → Result X InPlaceFault → Type 0
Calls called before after n (Ok _) = CallsEach called before after n
Calls called before after n (Err _) = CallsNoneTwice called before after n

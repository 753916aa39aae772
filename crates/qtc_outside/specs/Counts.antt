-- Counts that rise. (Own.)
use Rattle.std.specs.Prelude.{ℕ, ◌+◌, ◌-◌, ◌^◌, ◌≤◌, min, max, Result, Ok, Err}

-- a count of 64 bits after it rose by more; at the end of its type it stands still
abbrev pub risen : ℕ → ℕ → ℕ
risen count more = max count (min (count + more) (2 ^ 64 - 1))

-- the count rose by one at least; where it stood at its end, that counts as a rise
abbrev pub Rose : ℕ → ℕ → Type 0
Rose old new = risen old 1 ≤ new

-- a count of faults after a call: it rose by one where the call failed, and else stands
abbrev pub faults_after : {A E : Type 0} → ℕ → Result A E → ℕ
faults_after faults (Ok answer) = faults
faults_after faults (Err fault) = risen faults 1

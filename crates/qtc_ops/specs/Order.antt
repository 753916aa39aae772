-- The order of byte strings, and the greatest number. (Own.)
use Rattle.std.specs.Prelude.{ℕ, ◌-◌, ◌^◌, min, List}
use Rattle.std.specs.Cmp.Lexicographic.{slice_cmp}
use Rattle.std.specs.Ordering.{nat_cmp}
use Rattle.std.specs.declared.cmp.Ordering.{Ordering}

-- byte by byte, a front of a string below the string
abbrev pub bytes_cmp : List ℕ → List ℕ → Ordering
bytes_cmp = slice_cmp nat_cmp

-- numbers stand still at the greatest of 128 bits
abbrev pub capped : ℕ → ℕ
capped n = min n (2 ^ 128 - 1)

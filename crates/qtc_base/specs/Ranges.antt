-- Ranges of numbers, each from its first number up to its second, which is left out. (Own.)
use Rattle.std.specs.Prelude.{◌≡◌, ℕ, ◌+◌, ◌<◌, ◌≤◌, Bool, ◌&&◌, ◌==◌, nat_le, nat_lt, min, List, count_by}
use Rattle.qtc_base.specs.declared.ranges.Range.{Range}

-- the first number of a range, and the number past its last
abbrev pub bounds_of : Range → ℕ × ℕ
bounds_of range = (range.begin, range.end)

abbrev pub in_range : ℕ → ℕ × ℕ → Bool
in_range number range = nat_le range.0 number && nat_lt number range.1

-- how many of the ranges have the number
abbrev pub times_covered : List (ℕ × ℕ) → ℕ → ℕ
times_covered ranges number = count_by (in_range number) ranges

-- how often a list of called indexes has the index
abbrev pub times_called : List ℕ → ℕ → ℕ
times_called called index = count_by (λ call. call == index) called

-- of the `size` numbers from `begin` on, those below `n`
abbrev pub clip : (begin size n : ℕ) → ℕ × ℕ
clip begin size n = (min begin n, min (begin + size) n)

-- each number below `n` lies in just one of the ranges, and no other number in any
pub record Tiles (ranges : List (ℕ × ℕ)) (n : ℕ) : Type 0 where
  pub once : (number : ℕ) → number < n → times_covered ranges number ≡ 1
  pub none : (number : ℕ) → n ≤ number → times_covered ranges number ≡ 0

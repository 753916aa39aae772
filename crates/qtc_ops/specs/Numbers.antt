-- Items that are numbers. (Own.)
use Rattle.std.specs.Prelude.{ℕ, Bool, ◌&&◌, nat_le, List, length}
use Rattle.std.specs.Str.{all_ascii_digits}
use Rattle.qtc_base.specs.Limits.{most_number_digits}

-- whether an item is 1 to that many decimal digits
abbrev pub is_number : List ℕ → Bool
is_number item = nat_le 1 (length item) && (nat_le (length item) most_number_digits && all_ascii_digits item)

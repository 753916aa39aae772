-- How names of jobs are spelled. (Own.)
use Rattle.std.specs.Prelude.{ℕ, Bool, ◌||◌, ◌&&◌, ◌==◌, nat_le, List, length}
use Rattle.std.specs.List.{list_all}
use Rattle.qtc_base.specs.Limits.{most_name}

-- A to Z, a to z, 0 to 9, _ or -
abbrev pub is_name_byte : ℕ → Bool
is_name_byte byte =
    (nat_le 65 byte && nat_le byte 90)
    || ((nat_le 97 byte && nat_le byte 122) || ((nat_le 48 byte && nat_le byte 57) || (byte == 95 || byte == 45)))

abbrev pub is_name : List ℕ → Bool
is_name word = nat_le 1 (length word) && (nat_le (length word) most_name && list_all is_name_byte word)

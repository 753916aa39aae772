-- How literals and numbers are spelled. (Own.)
use Rattle.std.specs.Prelude.{ℕ, ℤ, pos, neg_ℤ, ◌+◌, ◌-◌, ◌*◌, Bool, not, ◌||◌, ◌&&◌, ◌==◌, nat_le, List, [], ◌∷◌, length, slice_index, drop, Option, Some, None, unwrap_or, if◌then◌else◌}
use Rattle.std.specs.List.{list_all}
use Rattle.std.specs.Option.{is_some}
use Rattle.std.specs.Str.{all_ascii_digits}
use Rattle.qtc_base.specs.Decimal.{number_of}
use Rattle.qtc_base.specs.Limits.{most_digits, most_priority, least_priority}

-- ---- literals and names of texts

-- 0x20 to 0xff, but no 0x7f and no backslash
abbrev pub is_raw : ℕ → Bool
is_raw byte = (nat_le 32 byte && nat_le byte 255) && (not (byte == 127) && not (byte == 92))

-- the value of a hexadecimal digit of either case
abbrev pub hex_value : ℕ → Option ℕ
hex_value digit =
    if nat_le 48 digit && nat_le digit 57 then Some (digit - 48)
    else (if nat_le 97 digit && nat_le digit 102 then Some (digit - 87)
    else (if nat_le 65 digit && nat_le digit 70 then Some (digit - 55) else None))

abbrev pub hex_pair : Option ℕ → Option ℕ → Option ℕ
hex_pair (Some high) (Some low) = Some (16 * high + low)
hex_pair _ _ = None

-- the byte that `\xHH` stands for
abbrev pub escape_value : ℕ → ℕ → ℕ → ℕ → Option ℕ
escape_value slash letter high low = if slash == 92 && letter == 120 then hex_pair (hex_value high) (hex_value low) else None

abbrev pub onto : Option ℕ → Option (List ℕ) → Option (List ℕ)
onto (Some byte) (Some text) = Some (byte ∷ text)
onto _ _ = None

-- a byte that stands for itself
abbrev pub raw_value : ℕ → Option ℕ
raw_value byte = if is_raw byte then Some byte else None

-- the bytes that a word stands for, where each of them is raw or `\xHH`
abbrev pub literal_of : List ℕ → Option (List ℕ)
literal_of [] = Some []
literal_of (a ∷ []) = onto (raw_value a) (Some [])
literal_of (a ∷ b ∷ []) = onto (raw_value a) (literal_of (b ∷ []))
literal_of (a ∷ b ∷ c ∷ []) = onto (raw_value a) (literal_of (b ∷ c ∷ []))
literal_of (a ∷ b ∷ c ∷ d ∷ rest) =
    if a == 92 then onto (escape_value a b c d) (literal_of rest) else onto (raw_value a) (literal_of (b ∷ c ∷ d ∷ rest))

abbrev pub is_literal : List ℕ → Bool
is_literal word = is_some (literal_of word)

abbrev pub text_of : List ℕ → List ℕ
text_of word = unwrap_or (literal_of word) []

-- ---- numbers

-- 1 to so many decimal digits
abbrev pub is_numeral : List ℕ → Bool
is_numeral word = nat_le 1 (length word) && (nat_le (length word) most_digits && all_ascii_digits word)

abbrev pub is_within : ℕ → ℕ → List ℕ → Bool
is_within least most word = nat_le least (number_of word) && nat_le (number_of word) most

abbrev pub is_negative : List ℕ → Bool
is_negative word = slice_index word 0 == 45

-- without one `-` at its front
abbrev pub unsigned : List ℕ → List ℕ
unsigned word = if is_negative word then drop 1 word else word

abbrev pub is_priority : List ℕ → Bool
is_priority word = nat_le (number_of (unsigned word)) (if is_negative word then least_priority else most_priority)

abbrev pub priority_of : List ℕ → ℤ
priority_of word = if is_negative word then neg_ℤ (pos (number_of (unsigned word))) else pos (number_of word)

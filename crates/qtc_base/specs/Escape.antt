-- How reports write the bytes of a value, an item or a text. (Own.)
use Rattle.std.specs.Prelude.{ℕ, ◌+◌, ◌/◌, ◌%◌, Bool, not, ◌&&◌, ◌==◌, nat_lt, nat_le, if◌then◌else◌, List, [], ◌∷◌}
use Rattle.std.specs.List.{flat_map}

-- written as it is: no control byte, no 0x7f and no backslash
abbrev pub is_plain : ℕ → Bool
is_plain byte = nat_le 32 byte && (not (byte == 127) && not (byte == 92))

-- the digit of a number below 16, in lower case
abbrev pub hex_glyph : ℕ → ℕ
hex_glyph value = if nat_lt value 10 then 48 + value else 87 + value

-- \xHH
abbrev pub hex_escape : ℕ → List ℕ
hex_escape byte = 92 ∷ 120 ∷ hex_glyph (byte / 16) ∷ hex_glyph (byte % 16) ∷ []

abbrev pub escaped_byte : ℕ → List ℕ
escaped_byte byte = if is_plain byte then byte ∷ [] else hex_escape byte

abbrev pub escaped : List ℕ → List ℕ
escaped raw = flat_map escaped_byte raw

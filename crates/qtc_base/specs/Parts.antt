-- The parts of a text, each from its first byte up to its end. (Own.)
use Rattle.std.specs.Prelude.{ℕ, ◌≤◌, ◌-◌, List, All, length, map, slice_range}
use Rattle.qtc_base.specs.declared.ranges.Range.{Range}

abbrev pub part_of : List ℕ → Range → List ℕ
part_of text part = slice_range text part.begin part.end

abbrev pub parts_of : List ℕ → List Range → List (List ℕ)
parts_of text parts = map (part_of text) parts

abbrev pub part_len : Range → ℕ
part_len part = part.end - part.begin

-- each part lies within the text
abbrev pub AreWithin : List ℕ → List Range → Type 0
AreWithin text parts = All (λ part. part.end ≤ length text) parts

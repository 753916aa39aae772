-- The fields of an item. (Own.)
use Rattle.std.specs.Prelude.{ℕ, zero, suc, List, [], codes, slice_index_or}
use Rattle.qtc_base.specs.Words.{words_by}

-- the words between spaces and tabs; CR stays in them
abbrev pub fields : List ℕ → List (List ℕ)
fields item = words_by (codes " \t") item

-- the field of a number, from 1; empty where there is none
abbrev pub field_of : ℕ → List ℕ → List ℕ
field_of zero item = []
field_of (suc before) item = slice_index_or (fields item) before []

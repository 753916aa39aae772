-- What stands in a line: pieces of one counter, each with the values that a table has for its range. (Own.)
use Rattle.std.specs.Prelude.{◌≡◌, ◌≢◌, ◌<◌, ◌≤◌, ℕ, List, [], ◌∷◌, All, length, take, drop, ◌-◌}
use Rattle.std.specs.List.{flat_map}
use Rattle.qtc_claim.specs.Claims.{clipped}
use Rattle.qtc_claim.specs.Counter.{CounterId}
use Rattle.qtc_inbox.specs.declared.entry.Cell.{Cell}
use Rattle.qtc_inbox.specs.declared.entry.Cell.TheVariants.{Kept, Absent, Bad}
use Rattle.qtc_inbox.specs.declared.entry.Entry.{Entry}

module _ {V : Type 0} where
  -- the table's cells of a range; an index past the table's end has none
  abbrev pub cells_of : List (Cell V) → ℕ × ℕ → List (Cell V)
  cells_of table range = take (range.1 - range.0) (drop range.0 table)

  abbrev pub kept_in : Cell V → List V
  kept_in (Kept value) = value ∷ []
  kept_in Absent = []
  kept_in Bad = []

  -- the values of these cells, in order
  abbrev pub values_in : List (Cell V) → List V
  values_in cells = flat_map kept_in cells

  -- no index of the range is bad
  abbrev pub IsGood : List (Cell V) → ℕ × ℕ → Type 0
  IsGood table range = All (λ cell. cell ≢ Bad) (cells_of table range)

  -- the table has a cell for each of the indexes, and each has a value or is bad
  pub record IsFull (n : ℕ) (table : List (Cell V)) : Type 0 where
    pub cells : n ≤ length table
    pub none_absent : All (λ cell. cell ≢ Absent) table

  -- the piece is of the counter and has an index, none of its indexes is bad, and the values are the table's values of its
  -- range
  pub record IsEntry (counter : CounterId) (table : List (Cell V)) (entry : Entry V) : Type 0 where
    pub of : entry.piece.of ≡ counter
    pub below : entry.piece.addition.begin < counter.n
    pub some : 1 ≤ entry.piece.addition.size
    pub good : IsGood table (clipped counter.n entry.piece.addition)
    pub values : entry.values ≡ values_in (cells_of table (clipped counter.n entry.piece.addition))

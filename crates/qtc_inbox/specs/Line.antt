-- What contracts see of a line and of a place at it. (Own.)
use Rattle.std.specs.Prelude.{ℕ}
use Rattle.atomic_table.specs.Seated.{TableId}
use Rattle.qtc_inbox.specs.declared.rule.View.{View}

-- which line it is, as no other has its table, and how many entries it holds at most
pub record LineId : Type 0 where
  pub table : TableId
  pub room : ℕ

-- a place at a line: which line it is of, and what the place knows. That is for what the line was made, how many parts the
-- place has of the right to know the whole, and what it put and took, each with its number: how many had been put, or
-- taken, at the line before
pub record PlaceState (V : Type 0) : Type 0 where
  pub line : TableId
  pub has : View V

module _ {V : Type 0} where
  abbrev pub place_at : TableId → View V → PlaceState V
  place_at line has = record { line = line; has = has }

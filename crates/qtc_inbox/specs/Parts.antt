-- What the places at a line are about. (Own.)
use Rattle.std.specs.Prelude.{ℕ, List}
use Rattle.qtc_claim.specs.Counter.{CounterId}
use Rattle.qtc_inbox.specs.declared.entry.Cell.{Cell}
use Rattle.qtc_inbox.specs.declared.entry.Entry.{Entry}

-- what a line is made for: pieces of a counter, with the values of a table, by so many places
pub record LineKey (V : Type 0) : Type 0 where
  pub counter : CounterId
  pub table : List (Cell V)
  pub parts : ℕ

-- an entry, and how many were put before it, or how many were taken before it
pub record Numbered (V : Type 0) : Type 0 where
  pub ticket : ℕ
  pub entry : Entry V

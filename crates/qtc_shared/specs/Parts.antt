-- What the seats of a shared future's table have: passes, and the book. (Own.)
use Rattle.std.specs.Prelude.{ℕ, Bool, List}
use Rattle.qtc_events.specs.Flags.{Standing}
use Rattle.qtc_events.specs.declared.thresholds.Thresholds.{Thresholds}
use Rattle.qtc_future.specs.Future.{Future, Logged}

-- what a future is made with: its mode and thresholds, and how many passes may report
pub record Terms : Type 0 where
  pub filter : Bool
  pub thresholds : Thresholds
  pub makers : ℕ

-- the future of one thread at a journal
abbrev pub future_at : {V : Type 0} → Terms → List (Logged V) → Future V
future_at terms journal = record { filter = terms.filter; thresholds = terms.thresholds; calls = journal }

-- a pass: its number, the journal that it knows, and the flags that it saw since, in order; the flags that it ever saw,
-- and how many passes were made from it
pub record PassPart (V : Type 0) : Type 0 where
  pub number : ℕ
  pub known : List (Logged V)
  pub seen : List Standing
  pub looks : List Standing
  pub children : ℕ

-- the book: the journal, and how many passes were made
pub record BookPart (V : Type 0) : Type 0 where
  pub journal : List (Logged V)
  pub made : ℕ

-- A list with room for so many items more. (Own.)
use Rattle.std.specs.Prelude.{ℕ, List}

pub record Logs (T : Type 0) : Type 0 where
  pub items : List T
  pub room : ℕ

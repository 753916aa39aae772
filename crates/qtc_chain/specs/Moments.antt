-- What a locked call tells of the object behind the lock. (Own.)

use Rattle.std.specs.Prelude.{ℕ}

-- for how many futures is waited; all else may change at any time
pub record Awaited : Type 0 where
  pub n : ℕ

-- there was a moment at which the object went by this from what it was to what it then is
pub record OnceDoes {S : Type 0} (Does : S → S → Type 0) : Type 0 where
  pub before : S
  pub after : S
  pub does : Does before after

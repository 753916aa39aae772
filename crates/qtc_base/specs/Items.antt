-- A list of items that keeps the limits.
use Rattle.std.specs.Prelude.{ℕ, ◌<◌, ◌≤◌, ◌+◌, ◌⊎◌, List, length, sum_by}
use Rattle.qtc_base.specs.Limits.{most_bytes, most_items}

-- how many bytes the items have together
abbrev pub total_bytes : List (List ℕ) → ℕ
total_bytes items = sum_by length items

-- more items or more bytes than one list holds
abbrev pub PassesLimit : List (List ℕ) → Type 0
PassesLimit items = (most_items < length items) ⊎ (most_bytes < total_bytes items)

-- there is room for one more item of so many bytes
pub record HasRoom (items : List (List ℕ)) (len : ℕ) : Type 0 where
  pub item : length items + 1 ≤ most_items
  pub bytes : total_bytes items + len ≤ most_bytes

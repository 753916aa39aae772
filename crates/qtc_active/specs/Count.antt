-- What contracts see of a count and of a badge (own).
use Rattle.std.specs.Prelude.{◌≡◌, ℕ, Bool, false, List, [], length, All}
use Rattle.atomic_table.specs.Seated.{TableId}

-- which count it is, as no other has its table, and for how many workers
pub record CountId : Type 0 where
  pub table : TableId
  pub workers : ℕ

-- a badge of the count: whether its worker is in, and the numbers that its own loads gave, in order
pub record BadgeState : Type 0 where
  pub of : CountId
  pub is_in : Bool
  pub seen : List ℕ

-- a badge as it is made: its worker is out, and it never looked
abbrev pub new_badge : CountId → BadgeState
new_badge count = record { of = count; is_in = false; seen = [] }

-- the count is for so many workers, and each of them has a new badge
pub record IsNew (workers : ℕ) (count : CountId) (badges : List BadgeState) : Type 0 where
  pub for_workers : count.workers ≡ workers
  pub one_each : length badges ≡ workers
  pub all_out : All (λ badge. badge ≡ new_badge count) badges

-- A pool that threads share, as its callers see it. (Own.)
use Rattle.std.specs.Prelude.{ℕ, ◌≡◌, ◌<◌, List, length, slice_index_or}

-- the limit that it began with; all else may change at any time
pub record Shared : Type 0 where
  pub first : ℕ

-- there are as many desks as before, and each is in this relation to what it was
pub record EachBecomes {D : Type 0} (becomes : D → D → Type 0) (old new : List D) : Type 0 where
  pub count : length new ≡ length old
  pub each : (place : ℕ) (desk : D) → place < length old → becomes (slice_index_or old place desk) (slice_index_or new place desk)

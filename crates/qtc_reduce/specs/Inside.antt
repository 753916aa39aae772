-- What a reduction keeps from call to call. (Own.)
use Rattle.std.specs.Prelude.{◌≡◌, ◌+◌, ◌<◌, ◌≤◌, ◌^◌, ◌++◌, true, false, not, length, map, All, is_some}
use Rattle.std.specs.declared.vec.Vec.{Vec}
use Rattle.std.specs.Vec.{vec_capacity}
use Rattle.qtc_base.specs.Ranges.{Tiles, bounds_of}
use Rattle.qtc_base.specs.declared.ranges.Range.{Range}
use Rattle.qtc_reduce.specs.Core.{Core, is_next, listed}

pub record IsSound {A : Type 0} (core : Core A) : Type 0 where
  -- the accumulator is home or out with a block
  pub one : is_some core.home ≡ not (is_some core.hand)
  -- once closed it stays home
  pub closed : core.closed ≡ true → is_some core.home ≡ true
  -- no block that waits is empty
  pub some : All (λ block. block.range.begin < block.range.end) core.stored
  -- while the accumulator is home, no block waits that may be next
  pub still : core.closed ≡ false → is_some core.home ≡ true → All (λ block. is_next core block ≡ false) core.stored
  -- in order, what was handed out has each number below the progress once
  pub tiled : core.closed ≡ false → core.ordered ≡ true → Tiles (map bounds_of (core.folded ++ listed core.hand)) core.progress

-- and there is room for the ranges of all blocks that were taken
pub record IsKept {A Y : Type 0} (core : Core A) (folded : Vec Range Y) : Type 0 where
  pub sound : IsSound core
  pub few : length core.stored < 2 ^ 32
  pub room : length core.folded + length (listed core.hand) + length core.stored ≤ vec_capacity folded

-- The sizes of an engine's blocks, and the indexes that a worker alone calls. (Own.)
use Rattle.std.specs.Prelude.{◌≤◌, ◌%◌, ℕ, List, All, length, map, slice_index}
use Rattle.std.specs.List.{range_with_len}
use Rattle.qtc_base.specs.Limits.{most_block}
use Rattle.qtc_kernel.specs.Workload.{Workload, bad_indexes, worked_on}

-- the sizes of blocks: there is one, and each is 1 to 65,536
pub record AreSizes (sizes : List ℕ) : Type 0 where
  pub some : 1 ≤ length sizes
  pub least : All (λ size. 1 ≤ size) sizes
  pub most : All (λ size. size ≤ most_block) sizes

-- so many of the sizes, in turn, over and over
abbrev pub in_turn : List ℕ → ℕ → List ℕ
in_turn sizes count = map (λ turn. slice_index sizes (turn % length sizes)) (range_with_len 0 count)

-- the indexes that a worker alone calls the function on: all, or those up to the first bad item
abbrev pub called_by : Workload → List ℕ
called_by work = range_with_len 0 (worked_on work (bad_indexes work))

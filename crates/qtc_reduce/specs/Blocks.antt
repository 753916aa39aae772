-- Blocks of kept values. (Own.)
use Rattle.std.specs.Prelude.{◌≤◌, ◌<◌, ◌==◌, ◌||◌, ℕ, Bool, not, IsTrue, List, map, length, All, HoldsAt}
use Rattle.qtc_base.specs.Ranges.{bounds_of}
use Rattle.qtc_reduce.specs.declared.blocks.Block.{Block}

abbrev pub begin_of : Block → ℕ
begin_of block = block.range.begin

abbrev pub bounds : Block → ℕ × ℕ
bounds block = bounds_of block.range

-- the texts of a block, by ascending index
abbrev pub texts_of : Block → List (List ℕ)
texts_of block = map (λ kept. kept.value) block.kept

-- a block may be folded next, by where it begins and how far the reduction is
abbrev pub may_be_next : (ordered : Bool) → (progress : ℕ) → Block → Bool
may_be_next ordered progress block = not ordered || (begin_of block == progress)

-- the block may be folded next, and of all blocks that may be it has the least begin
abbrev pub ComesFirst : (ordered : Bool) → (progress : ℕ) → List Block → Block → Type 0
ComesFirst ordered progress blocks block =
    IsTrue (may_be_next ordered progress block)
    × All (λ other. IsTrue (may_be_next ordered progress other) → begin_of block ≤ begin_of other) blocks

-- the block at the place comes first
pub record IsNextAt (ordered : Bool) (progress : ℕ) (blocks : List Block) (place : ℕ) : Type 0 where
  pub below : place < length blocks
  pub first : HoldsAt (ComesFirst ordered progress blocks) blocks place

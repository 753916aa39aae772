-- A reduction, as its callers see it. (After ReduceKernel of Qt Concurrent; own.)
use Rattle.std.specs.Prelude.{◌&&◌, ◌++◌, ℕ, Bool, false, List, [], ◌∷◌, map, Option, Some, None, is_some}
use Rattle.qtc_base.specs.Ranges.{bounds_of}
use Rattle.qtc_base.specs.declared.ranges.Range.{Range}
use Rattle.qtc_reduce.specs.declared.blocks.Block.{Block}
use Rattle.qtc_reduce.specs.Blocks.{bounds, may_be_next}

pub record Core (A : Type 0) : Type 0 where
  pub ordered : Bool
  pub workers : ℕ
  -- the blocks that wait, in order of arrival
  pub stored : List Block
  -- the range of the block that is in hand, while the accumulator is out
  pub hand : Option Range
  -- the ranges of the folded blocks, in the order in which they were folded
  pub folded : List Range
  -- the end of the last block that was handed out, at first 0
  pub progress : ℕ
  -- a block was given back unfinished
  pub closed : Bool
  -- the accumulator, while it is home
  pub home : Option A

abbrev pub listed : Option Range → List Range
listed None = []
listed (Some range) = range ∷ []

module _ {A : Type 0} where
  -- nothing was offered
  abbrev pub new_core : Bool → ℕ → A → Core A
  new_core ordered workers first = record {
    ordered = ordered;
    workers = workers;
    stored = [];
    hand = None;
    folded = [];
    progress = 0;
    closed = false;
    home = Some first;
  }

  -- the ranges that were offered, but those that were dropped: folded, in hand, and waiting
  abbrev pub ranges_of : Core A → List (ℕ × ℕ)
  ranges_of core = map bounds_of (core.folded ++ listed core.hand) ++ map bounds core.stored

  -- the block may be folded next, by its place
  abbrev pub is_next : Core A → Block → Bool
  is_next core block = may_be_next core.ordered core.progress block

  -- the accumulator is home, and goes out with the block
  abbrev pub goes_out : Core A → Block → Bool
  goes_out core block = is_some core.home && is_next core block

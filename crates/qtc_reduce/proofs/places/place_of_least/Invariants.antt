use Rattle.std.proofs.Common.{ℕ, ◌<◌, ◌≤◌, length, get_or}
use Rattle.qtc_reduce.specs.declared.blocks.Block.{Block}
use Rattle.qtc_reduce.specs.Blocks.{begin_of}
use Rattle.qtc_reduce.proofs.places.place_of_least.Given as goal

abbrev pub invariant-loop-place : goal.invariant-loop-place
invariant-loop-place l =
    (0 < length l.stored → l.least < length l.stored)
    × ((k : ℕ) (d e : Block) → k < l.place → begin_of (get_or l.stored l.least d) ≤ begin_of (get_or l.stored k e))

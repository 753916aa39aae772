use Rattle.std.proofs.Common.{◌≡◌, ◌≤◌, ◌+◌, ◌-◌, ◌++◌, ℕ, List, drop, length}
use Rattle.qtc_base.specs.Lines.{lines}
use Rattle.qtc_base.specs.Parts.{AreWithin, parts_of}
use Rattle.qtc_base.specs.declared.ranges.Range.{Range}
use Rattle.qtc_base.proofs.line_cut.line_parts.Given as goal

-- the parts are the lines up to this place
pub record AreFound (text : List ℕ) (parts : List Range) (begin : ℕ) : Type 0 where
  pub below : begin ≤ length text + 1
  pub within : AreWithin text parts
  pub front : parts_of text parts ++ lines (drop begin text) ≡ lines text

abbrev pub invariant-loop-begin : goal.invariant-loop-begin
invariant-loop-begin l = AreFound l.text l.parts.items l.begin

abbrev pub decreases-loop-begin : goal.decreases-loop-begin
decreases-loop-begin l = length l.text + 1 - l.begin

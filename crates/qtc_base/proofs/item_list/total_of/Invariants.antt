use Rattle.std.proofs.Common.{◌≡◌, take}
use Rattle.std.specs.Prelude.{sum_by}
use Rattle.qtc_base.specs.Parts.{part_len}
use Rattle.qtc_base.proofs.item_list.total_of.Given as goal

abbrev pub invariant-loop-part : goal.invariant-loop-part
invariant-loop-part l = l.total ≡ sum_by part_len (take l.part-index l.parts)

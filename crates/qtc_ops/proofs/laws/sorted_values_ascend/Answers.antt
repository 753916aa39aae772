use Rattle.qtc_ops.proofs.SortLemmas.{sorted-moves, sorted-sorted}
use Rattle.qtc_ops.proofs.laws.sorted_values_ascend.Goals as goal

pub returns : goal.returns
returns c = λ values. (sorted-moves values, sorted-sorted values)

use Rattle.std.proofs.Common.{◌≡◌, length}
use Rattle.qtc_bench.proofs.in_place.numbers.Given as goal

abbrev pub invariant-loop-index : goal.invariant-loop-index
invariant-loop-index l = length l.list.items ≡ l.index

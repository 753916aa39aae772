use Rattle.std.proofs.Common.{◌≡◌, All, length}
use Rattle.qtc_ops.specs.contracts.op_fns.OpFnItemFn.TheImpl.{value-value}
use Rattle.qtc_ops.specs.Operations.{value_of}
use Rattle.qtc_bench.proofs.in_place.functions_of.Given as goal

abbrev pub invariant-loop-made : goal.invariant-loop-made
invariant-loop-made l = record {
  count : length l.functions.items ≡ l._made;
  alike : All (λ f. value-value.it f ≡ value_of l.op) l.functions.items;
}

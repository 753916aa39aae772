use Rattle.std.proofs.Common.{◌≡◌, [], All, length}
use Rattle.qtc_ops.specs.contracts.op_fns.OpFnItemFn.TheImpl.{value-value, called-value}
use Rattle.qtc_ops.specs.Operations.{value_of}
use Rattle.qtc_kernel.proofs.tests.engines.functions_of.Given as goal

abbrev pub invariant-loop-made : goal.invariant-loop-made
invariant-loop-made l = record {
  count : length l.functions.items ≡ l._made;
  alike : All (λ f. value-value.it f ≡ value_of l.op) l.functions.items;
  fresh : All (λ f. called-value.it f ≡ []) l.functions.items;
}

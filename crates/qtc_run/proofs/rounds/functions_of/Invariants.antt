use Rattle.std.proofs.Common.{◌≡◌, length, []}
use Rattle.std.specs.Prelude.{All}
use Rattle.qtc_ops.specs.Operations.{value_of}
use Rattle.qtc_ops.specs.Prepared.{op_of}
use Rattle.qtc_run.proofs.rounds.functions_of.Given as goal

abbrev pub invariant-loop : goal.invariant-loop
invariant-loop l = record {
  count : length l.functions.items ≡ l.counter;
  value : All (λ function. value_of (op_of function.op) ≡ value_of l.op) l.functions.items;
  fresh : All (λ function. function.calls ≡ []) l.functions.items;
}

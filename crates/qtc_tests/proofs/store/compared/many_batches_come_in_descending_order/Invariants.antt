use Rattle.std.proofs.Common.{◌≡◌, true}
use Rattle.qtc_tests.proofs.store.compared.many_batches_come_in_descending_order.Given as goal

abbrev pub invariant-loop-k : goal.invariant-loop-k
invariant-loop-k g l = l.store.filter ≡ true

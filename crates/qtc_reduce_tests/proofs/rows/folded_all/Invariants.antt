use Rattle.std.proofs.Common.{IsSome}
use Rattle.qtc_reduce_tests.proofs.rows.folded_all.Given as goal

abbrev pub invariant-loop : goal.invariant-loop
invariant-loop l = IsSome l.next → IsSome l.core.hand

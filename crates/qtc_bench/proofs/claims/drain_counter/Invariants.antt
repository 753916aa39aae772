use Rattle.std.proofs.Common.{◌≡◌}
use Rattle.qtc_bench.proofs.claims.drain_counter.Given as goal

-- the seat stays one of the counter
abbrev pub invariant-loop : goal.invariant-loop
invariant-loop l = l.seat.of ≡ l.fn.counter

use Rattle.std.proofs.Common.{◌≡◌, false}
use Rattle.qtc_shared_tests.proofs.active.come_and_go.Given as goal

abbrev pub invariant-loop : goal.invariant-loop
invariant-loop l = record { of : l.badge.of ≡ l.count; out : l.badge.is_in ≡ false }

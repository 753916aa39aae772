use Rattle.std.proofs.Common.{◌≡◌}
use Rattle.qtc_shared.proofs.Chains.{Continues}
use Rattle.qtc_shared.proofs.shared_future.SharedFuture.wait_result.Given as goal

abbrev pub invariant-loop : goal.invariant-loop
invariant-loop g l = record {
  can : (goal.iterator-loop g).can_next l.iterator';
  finite : (goal.iterator-loop g).is_finite l.iterator';
  of : l.pass.of ≡ l.self;
  goes_on : Continues l.fn.pass l.pass;
}

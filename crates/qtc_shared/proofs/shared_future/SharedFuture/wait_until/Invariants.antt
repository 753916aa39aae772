use Rattle.std.proofs.Common.{◌≡◌}
use Rattle.qtc_events.specs.Flags.{flags_in}
use Rattle.qtc_shared.specs.Passes.{IsWatch}
use Rattle.qtc_shared.proofs.shared_future.SharedFuture.wait_until.Given as goal

abbrev pub invariant-loop : goal.invariant-loop
invariant-loop g l = record {
  can : (goal.iterator-loop g).can_next l.iterator';
  finite : (goal.iterator-loop g).is_finite l.iterator';
  of : l.pass.of ≡ l.self;
  watch : IsWatch l.fn.pass l.pass (flags_in l.flags.bits);
}

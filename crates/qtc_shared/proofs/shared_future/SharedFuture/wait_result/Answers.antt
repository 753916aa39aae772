use Rattle.std.proofs.Common.{ap, ◌∙◌}
use Rattle.qtc_shared.proofs.Chains.{continues_further, holds_continue, nothing_done}
use Rattle.qtc_shared.proofs.shared_future.SharedFuture.wait_result.Goals as goal

pub loop-preserved : goal.loop-preserved
loop-preserved g c = record {
  can = tt;
  finite = tt;
  of = ap (λ p. p.of) c.find.ensures.pass ∙ c.loop.invariant.of;
  goes_on = continues_further _ _ _ c.loop.invariant.goes_on (holds_continue _ _ (nothing_done _ _ _ c.find.ensures));
}

use Rattle.std.proofs.Common.{◌∙◌, arith}
use Rattle.qtc_run.proofs.Seating.{row-dealt}
use Rattle.qtc_run.proofs.workers.deal.Goals as goal

pub loop-preserved : goal.loop-preserved
loop-preserved g c = record {
  count = c.deal_row.ensures.count ∙ c.loop.invariant.count;
  dealt = λ all long whole.
      let before = c.loop.invariant.dealt all long whole in
      row-dealt c.args.number c.loop.counter all _ _ c.loop.workers.items c.deal_row.new.workers.items c.loop.invariant.count (omega (arith, c.loop-test.true, long)) c.in_ok-deal_row.ensures.dealt before.0 before.1;
}

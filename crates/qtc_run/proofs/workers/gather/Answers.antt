use Rattle.std.proofs.Common.{length, ◌∙◌, arith}
use Rattle.qtc_run.proofs.Seating.{row-gathered}
use Rattle.qtc_run.proofs.workers.gather.Goals as goal

pub loop-preserved : goal.loop-preserved
loop-preserved g c = record {
  count = c.gather_row.ensures.count ∙ c.loop.invariant.count;
  gathered = λ all long whole.
      let before = c.loop.invariant.gathered all long whole in
      row-gathered (length c.args.workers.items) c.loop.counter all c.loop.desks.items c.gather_row.new.desks.items c.loop.workers.items c.gather_row.new.workers.items c.loop.invariant.count (omega (arith, c.loop-test.true, long)) c.in_ok-gather_row.ensures.gathered before.0 before.1;
}

use Rattle.std.proofs.Common.{◌<◌, length, ◌∙◌, length-set, arith}
use Rattle.qtc_run.proofs.Seating.{leave-more, leave-none}
use Rattle.qtc_run.proofs.workers.gather_row.Goals.{in-Some+in_ok-push, in_default}
use Rattle.qtc_run.proofs.workers.gather_row.Goals as goal

pub loop-at-preserved : goal.loop-at-preserved
loop-at-preserved g c =
    let n = length c.args.workers.now.items in
    let within : c.loop-at.at < n = omega (arith, c.loop-at-test.true, c.len-at-end.ensures) in
    record {
      count = length-set c.loop-at.workers.items c.loop-at.at c.leave.new.self ∙ c.loop-at.invariant.count;
      gathered = λ one rest whole.
          let so_far = c.loop-at.invariant.gathered one rest whole in
          elim c.match-leave.branch [
            | in-Some+in_ok-push w ↦ rw w.desks-is (leave-more n c.loop-at.at c.loop-at.workers.items c.index_mut.result.now c.leave.new.self w.in-Some.desk c.args.desks.now.items c.loop-at.desks.items w.push.new.self.items within c.index_mut.ensures.value w.in-Some.ensures w.in_ok-push.ensures.items one rest so_far.0 so_far.1)
            | in_default w ↦ absurd (leave-none n c.loop-at.at c.loop-at.workers.items c.index_mut.result.now within c.index_mut.ensures.value w.in_default.ensures one rest so_far.1)
          ];
    }

use Rattle.std.proofs.Common.{◌<◌, ◌≤◌, length, ◌∙◌, length-set, arith}
use Rattle.qtc_run.proofs.Seating.{deal-more, row-ends, row-over, row-whole}
use Rattle.qtc_run.proofs.workers.deal_row.Goals.{in-Some+in_ok-add, in_default}
use Rattle.qtc_run.proofs.workers.deal_row.Goals as goal

pub loop-at-preserved : goal.loop-at-preserved
loop-at-preserved g c =
    let n = length c.args.workers.now.items in
    let within : c.loop-at.at < n = omega (arith, c.loop-at-test.true, c.len-at-end.ensures) in
    record {
      count = elim c.match-next.branch [
        | in-Some+in_ok-add w ↦ rw w.workers-is (length-set c.loop-at.workers.items c.loop-at.at w.add.new.self ∙ c.loop-at.invariant.count)
        | in_default w ↦ rw w.workers-is c.loop-at.invariant.count
      ];
      dealt = λ one done rest here whole.
          let so_far = c.loop-at.invariant.dealt one done rest here whole in
          elim c.match-next.branch [
            | in-Some+in_ok-add w ↦ rw w.workers-is (deal-more n c.loop-at.at c.loop-at.workers.items w.index_mut.result.now w.add.new.self w.in-Some.desk _ _ within w.index_mut.ensures.value w.in_ok-add.ensures w.in-Some.ensures.cases.0 one done rest so_far.0 so_far.1)
            | in_default w ↦ absurd (row-ends n c.loop-at.at one rest c.loop-at.desks.rest.items within (omega (arith, w.in_default.ensures.cases.0, c.loop-at.desks.rest.ok.0)) so_far.0)
          ];
    }

pub returns-clause-dealt : goal.returns-clause-dealt
returns-clause-dealt g c = λ one done rest here whole.
    let n = length c.args.workers.now.items in
    let most : n ≤ c.loop-at.at = omega (arith, c.loop-at-test.false, c.len-at-end.ensures) in
    let least : c.loop-at.at ≤ n = omega (arith, c.loop-at.auto.at-end, c.len-at-end.ensures) in
    let all = c.loop-at.invariant.dealt one done rest here whole in
    (row-over n c.loop-at.at one rest _ most all.0, row-whole n c.loop-at.at _ done c.loop-at.workers.items most least all.1)

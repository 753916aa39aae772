use Rattle.std.proofs.Common.{arith}
use Rattle.std.specs.Vec.Iter.{into_iter_items}
use Rattle.qtc_run.specs.Rounds.{IsFree}
use Rattle.qtc_run.proofs.Rows.{next-of, none-left, seat-push}
use Rattle.qtc_run.proofs.rounds.bind_row.Goals.{in-Some+in_ok-push, in_default}
use Rattle.qtc_run.proofs.rounds.bind_row.Goals as goal

pub new-requires-after_bounds : goal.new-requires-after_bounds
new-requires-after_bounds g c κs within =
    (next-of (IsFree g.F.ItemFn.value g.F.ItemFn.called c.args.engine.now) (into_iter_items c.args.desks.now) (into_iter_items c.loop.desks) (into_iter_items c.next.new.self) c.args.count c.loop.counter c.in-Some.desk
    c.loop-test.true c.requires.count c.requires.free c.loop.invariant.desks c.in-Some.ensures.cases.0).0

pub loop-preserved : goal.loop-preserved
loop-preserved g c =
    elim c.match-next.branch [
      | in-Some+in_ok-push w ↦ rw w.bound-is (record {
        desks = (next-of (IsFree g.F.ItemFn.value g.F.ItemFn.called c.args.engine.now) (into_iter_items c.args.desks.now) (into_iter_items c.loop.desks) (into_iter_items c.next.new.self) c.args.count c.loop.counter w.in-Some.desk
            c.loop-test.true c.requires.count c.requires.free c.loop.invariant.desks w.in-Some.ensures.cases.0).1;
        bound = seat-push c.args.bound.now.items c.loop.bound.items w.push.new.self.items c.loop.counter c.args.engine.now w.new.result w.in_ok-push.ensures.items w.new.ensures c.loop.invariant.bound;
      })
      | in_default w ↦ absurd (none-left (into_iter_items c.args.desks.now) c.loop.desks.rest.items c.args.count c.loop.counter c.loop-test.true c.requires.count c.loop.invariant.desks
          (omega (arith, w.in_default.ensures.cases.0, c.loop.desks.rest.ok.0)))
    ]

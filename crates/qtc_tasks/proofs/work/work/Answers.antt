use Rattle.qtc_tasks.proofs.Adding.{goes_on}
use Rattle.qtc_tasks.proofs.work.work.Goals as goal

pub loop-came-preserved : goal.loop-came-preserved
loop-came-preserved g c =
    goes_on c.args.future.now (g.T.Task.state c.args.task.now) (g.T.Task.state c.loop-came.task) (g.T.Task.state c.turn.new.task) c.args.pass.now c.loop-came.pass c.turn.new.pass c.loop-came.came
    c.loop-came.invariant c.in_default.ensures

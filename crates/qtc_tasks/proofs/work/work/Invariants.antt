use Rattle.qtc_tasks.specs.Inside.{IsUnderWay}
use Rattle.qtc_tasks.proofs.work.work.Given as goal

abbrev pub invariant-loop-came : goal.invariant-loop-came
invariant-loop-came g l =
    IsUnderWay l.future (g.T.Task.state l.fn.task) (g.T.Task.state l.task) l.fn.pass l.pass l.came

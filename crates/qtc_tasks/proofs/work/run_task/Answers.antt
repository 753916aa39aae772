use Rattle.std.proofs.Common.{refl, ap, sym, ◌∙◌, subst, ◌<◌, true, false}
use Rattle.qtc_future.specs.Steps.{Effect}
use Rattle.qtc_future.specs.declared.requests.Request.TheVariants.{Start}
use Rattle.qtc_shared.specs.Passes.{IsHold, Makes}
use Rattle.qtc_tasks.specs.Turns.{IsNotRun}
use Rattle.qtc_tasks.specs.declared.ends.TaskStop.TheVariants.{NotRun}
use Rattle.qtc_tasks.proofs.Ended.{started_done, task_journal, work_same}
use Rattle.qtc_tasks.proofs.work.run_task.Goals as goal

pub finish-requires-2-clause-of : goal.finish-requires-2-clause-of
finish-requires-2-clause-of g c κs within =
    (work_same (g.T.Task.state c.args.job.task) c.start.new.pass c.work-came.new.pass c.work-came.result.0 c.work-came.result.1 c.work-came.ensures).0
    ∙ ap (λ p. p.of) c.start.ensures.pass ∙ c.requires.of

pub finish-requires-2-clause-maker : goal.finish-requires-2-clause-maker
finish-requires-2-clause-maker g c κs within =
    subst (λ n. n < c.args.future.now.terms.makers)
    (sym ((work_same (g.T.Task.state c.args.job.task) c.start.new.pass c.work-came.new.pass c.work-came.result.0 c.work-came.result.1 c.work-came.ensures).1
    ∙ ap (λ p. p.number) c.start.ensures.pass))
    c.requires.maker

pub returns-then-not-start : goal.returns-then-not-start
returns-then-not-start g c =
    let state = g.T.Task.state c.args.job.task in
    let start : IsHold c.args.job.pass c.start.new.pass (Makes c.args.job.pass Start (Effect false)) = subst (λ b. IsHold c.args.job.pass c.start.new.pass (Makes c.args.job.pass Start (Effect b))) c.if-not-start.true c.start.ensures in
    let done : IsNotRun c.args.job.task c.args.job.task c.args.job.pass c.start.new.pass 0 = record { start = start; none = refl; back_is = refl } in
    record {
      worked = c.start.new.pass;
      done = done;
      effect = c.finish.result;
      finish = c.finish.ensures;
      journal = task_journal c.args.job.task state c.args.job.pass c.start.new.pass c.finish.new.pass 0 (NotRun c.args.job.task) c.finish.result done c.finish.ensures;
    }

pub returns : goal.returns
returns g c =
    let state = g.T.Task.state c.args.job.task in
    let start : IsHold c.args.job.pass c.start.new.pass (Makes c.args.job.pass Start (Effect true)) = subst (λ b. IsHold c.args.job.pass c.start.new.pass (Makes c.args.job.pass Start (Effect b))) c.if-not-start.false c.start.ensures in
    let done = started_done c.args.job.task state c.args.job.pass c.start.new.pass c.work-came.new.pass c.work-came.result.0 c.work-came.result.1 start c.work-came.ensures in
    record {
      worked = c.work-came.new.pass;
      done = done;
      effect = c.finish-2.result;
      finish = c.finish-2.ensures;
      journal = task_journal c.args.job.task state c.args.job.pass c.work-came.new.pass c.finish-2.new.pass c.work-came.result.0 c.work-came.result.1 c.finish-2.result done c.finish-2.ensures;
    }

use Rattle.std.proofs.Common.{inl, inr, subst, Ok, Err, None, Some}
use Rattle.qtc_tasks.specs.Tasks.{Gives}
use Rattle.qtc_tasks.specs.declared.task.TaskFault.TheVariants.{Bad}
use Rattle.qtc_tasks.proofs.TurnLemmas.{answered, paused}
use Rattle.qtc_tasks.proofs.turns.turn.Goals as goal

pub returns-then-ended : goal.returns-then-ended
returns-then-ended g c =
    inl (paused c.args.pass.now c.pause.new.pass c.pause.result c.in-Ok.flags c.ended.result _ c.pause.ensures c.in-Ok.is c.ended.ensures c.if-ended.true)

pub returns-in-Ok-Some : goal.returns-in-Ok-Some
returns-in-Ok-Some g c =
    let pause = paused c.args.pass.now c.pause.new.pass c.pause.result c.in-Ok.flags c.ended.result _ c.pause.ensures c.in-Ok.is c.ended.ensures c.if-ended.false in
    let gives : Gives (g.T.Task.state c.args.task.now) (g.T.Task.state c.next.new.self) (Ok (Some c.in-Ok-Some.value)) = subst (λ r. Gives (g.T.Task.state c.args.task.now) (g.T.Task.state c.next.new.self) (Ok r)) c.in-Ok-Some.field-0-is c.in-Ok-Some.ensures in
    answered (g.T.Task.state c.args.task.now) (g.T.Task.state c.next.new.self) c.args.came c.args.pass.now c.pause.new.pass c.offer.new.pass c.in-Ok-Some.value c.offer.result
    pause gives.0 gives.1 c.offer.ensures

pub returns-in-Ok-None : goal.returns-in-Ok-None
returns-in-Ok-None g c =
    let gives : Gives (g.T.Task.state c.args.task.now) (g.T.Task.state c.next.new.self) (Ok None) = subst (λ r. Gives (g.T.Task.state c.args.task.now) (g.T.Task.state c.next.new.self) (Ok r)) c.in-Ok-None.field-0-is c.in-Ok-None.ensures in
    (gives.0, gives.1, paused c.args.pass.now c.pause.new.pass c.pause.result c.in-Ok.flags c.ended.result _ c.pause.ensures c.in-Ok.is c.ended.ensures c.if-ended.false)

pub returns-in-Err-Bad : goal.returns-in-Err-Bad
returns-in-Err-Bad g c =
    let gives : Gives (g.T.Task.state c.args.task.now) (g.T.Task.state c.next.new.self) (Err (Bad c.in-Err-Bad.text)) = subst (λ r. Gives (g.T.Task.state c.args.task.now) (g.T.Task.state c.next.new.self) (Err r)) c.in-Err-Bad.field-0-is c.in-Err-Bad.ensures in
    record {
      none = gives.0;
      text = c.in-Err-Bad.text;
      bad = gives.1;
      paused = c.pause.new.pass;
      pause = paused c.args.pass.now c.pause.new.pass c.pause.result c.in-Ok.flags c.ended.result _ c.pause.ensures c.in-Ok.is c.ended.ensures c.if-ended.false;
      effect = c.fail.result;
      fail = c.fail.ensures;
    }

pub returns-in-Err-Memory : goal.returns-in-Err-Memory
returns-in-Err-Memory g c =
    inr (inl (paused c.args.pass.now c.pause.new.pass c.pause.result c.in-Ok.flags c.ended.result _ c.pause.ensures c.in-Ok.is c.ended.ensures c.if-ended.false))

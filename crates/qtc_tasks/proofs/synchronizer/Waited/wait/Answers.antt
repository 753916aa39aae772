use Rattle.std.proofs.Common.{subst}
use Rattle.qtc_events.specs.Flags.{flags_in}
use Rattle.qtc_shared.specs.Passes.{IsWatch}
use Rattle.qtc_tasks.proofs.WaitLemmas.{waited_for}
use Rattle.qtc_tasks.proofs.synchronizer.Waited.wait.Goals as goal

pub returns : goal.returns
returns g c =
    waited_for c.args.self.now c.wait_finished.new.pass c.event_at.new.pass (flags_in c.wait_finished.result.bits) _
    (subst (λ p. IsWatch p c.wait_finished.new.pass (flags_in c.wait_finished.result.bits)) c.self.view_is c.wait_finished.ensures.watch) c.wait_finished.ensures.finished c.event_at.ensures

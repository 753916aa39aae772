use Rattle.std.proofs.Common.{◌∙◌, subst}
use Rattle.qtc_future.specs.Answering.{IsTry}
use Rattle.qtc_future.specs.Steps.{Effect, step}
use Rattle.qtc_future.specs.declared.requests.Request.TheVariants.{SetSuspended}
use Rattle.qtc_shared.proofs.Follow.{toggle_after, try_after, at_lent}
use Rattle.qtc_shared.proofs.shared_future.SharedFuture.set_suspended.Goals as goal

pub enter-requires-clause-call : goal.enter-requires-clause-call
enter-requires-clause-call g c = λ κs le.
    let of = c.self.inside.locked.word in
    let lent = c.lend-lent.result.0 in
    let core = c.deref_mut.result.now in
    let calls = lent.core.value.calls in
    let number = c.pass.invariant.number in
    let after = c.set_suspended-effect.new.self in
    let request = SetSuspended c.args.on in
    let tried = subst (λ n. IsTry core (step core n request) Effect after c.set_suspended-effect.result) number c.set_suspended-effect.ensures in
    at_lent of _ lent.made.count calls c.lend-lent.new.seat after c.lend-lent.ensures.seat
    (try_after of.terms _ calls request core after Effect c.set_suspended-effect.result (c.deref_mut.ensures.value ∙ c.lend-lent.ensures.core) (toggle_after of.terms _ calls c.args.on) tried)

use Rattle.std.proofs.Common.{List, ℕ, ap, subst, ◌∙◌}
use Rattle.qtc_future.specs.Answering.{IsStep}
use Rattle.qtc_future.specs.Future.{Future, new_future}
use Rattle.qtc_future.specs.Steps.{Effect, step}
use Rattle.qtc_future.specs.declared.requests.Request.TheVariants.{Start}
use Rattle.qtc_kernel.specs.OwnPasses.{is_filter}
use Rattle.qtc_kernel.proofs.Opening.{future_opens, start_opens}
use Rattle.qtc_kernel.proofs.new_future.open_future.Goals as goal

pub returns : goal.returns
returns c =
    let core = start_opens (is_filter c.args.kind) c.args.cancel_after c.args.suspend_after c.start.new.self (Effect c.start.result)
    (subst (λ (f : Future (List ℕ)). IsStep (step f 0 Start) c.start.new.self (Effect c.start.result)) (c.in_ok-core.ensures ∙ ap (λ b. new_future b c.args.cancel_after c.args.suspend_after) c.is_filter.ensures) c.start.ensures) in
    future_opens c.args.kind c.requires.plain c.args.cancel_after c.args.suspend_after c.args.workers
    c.start.new.self core c.in_ok-future.future c.in_ok-future.passes.items c.in_ok-future.ensures
    c.pop.new.self.items c.pop.result c.unwrap-caller.result c.pop.ensures.items c.unwrap-caller.ensures
    c.pop-2.new.self.items c.pop-2.result c.unwrap-reporter.result c.pop-2.ensures.items c.unwrap-reporter.ensures

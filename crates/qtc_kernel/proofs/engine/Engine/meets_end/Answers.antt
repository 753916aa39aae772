use Rattle.std.proofs.Common.{sym, ◌∙◌}
use Rattle.qtc_kernel.proofs.Looking.{look_ended, look_free, look_met, watch_ended, watch_free}
use Rattle.qtc_kernel.proofs.Passing.{looked_on, looked_once, none_met, watch_from}
use Rattle.qtc_kernel.proofs.engine.Engine.meets_end.Goals as goal

pub returns-then-not-is_to_wait-clause-going : goal.returns-then-not-is_to_wait-clause-going
returns-then-not-is_to_wait-clause-going g c = λ none met.
    none_met c.args.pass.now c.state-flags.new.pass _ (watch_from c.args.pass.now c.state-flags.new.pass _ c.state-flags.ensures) (sym c.ended.ensures ∙ none) met

pub returns-clause-going : goal.returns-clause-going
returns-clause-going g c = λ none met.
    none_met c.state-flags.new.pass c.wait_resume.new.pass _ c.wait_resume.ensures.watch (sym c.ended-2.ensures ∙ none)
    ((looked_on c.args.pass.now c.state-flags.new.pass (looked_once c.args.pass.now c.state-flags.new.pass _ c.state-flags.ensures)).ends met)

pub returns-then-not-is_to_wait-clause-end : goal.returns-then-not-is_to_wait-clause-end
returns-then-not-is_to_wait-clause-end g c = λ ended.
    let seen = sym c.ended.ensures ∙ ended in
    (look_ended c.args.pass.now c.state-flags.new.pass _ c.state-flags.ensures seen, look_met c.args.pass.now c.state-flags.new.pass _ c.state-flags.ensures seen)

pub returns-then-not-is_to_wait-clause-free : goal.returns-then-not-is_to_wait-clause-free
returns-then-not-is_to_wait-clause-free g c = λ none.
    look_free c.args.pass.now c.state-flags.new.pass _ c.state-flags.ensures (sym c.ended.ensures ∙ none) (sym c.is_to_wait.ensures ∙ c.if-not-is_to_wait.true)

pub returns-clause-end : goal.returns-clause-end
returns-clause-end g c = λ ended.
    watch_ended c.args.pass.now c.state-flags.new.pass c.wait_resume.new.pass _ _ c.state-flags.ensures c.wait_resume.ensures.watch (sym c.ended-2.ensures ∙ ended)

pub returns-clause-free : goal.returns-clause-free
returns-clause-free g c = λ none.
    watch_free c.args.pass.now c.state-flags.new.pass c.wait_resume.new.pass _ _ c.state-flags.ensures c.wait_resume.ensures.watch (sym c.ended-2.ensures ∙ none) c.wait_resume.ensures.resumed

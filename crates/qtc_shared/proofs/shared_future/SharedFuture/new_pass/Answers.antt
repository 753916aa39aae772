use Rattle.std.proofs.Common.{ap, sym, ◌∙◌}
use Rattle.qtc_shared.specs.Inside.{pass_at_seat, state_of}
use Rattle.qtc_shared.proofs.Children.{parent}
use Rattle.qtc_shared.proofs.shared_future.SharedFuture.new_pass.Goals as goal

pub returns-clause-from : goal.returns-clause-from
returns-clause-from g c =
    let of = c.self.inside.locked.word in
    let part = pass_at_seat c.from.inside.seat in
    parent of c.args.from.now part c.lend-lent.result.0.core.value.calls _ _ c.lend-lent.new.seat c.make-pass.new.seat c.hand_back-book.new.seat c.make-pass.result
    (sym c.from.view_is ∙ ap (λ o. state_of o part) (ap (λ p. p.of) c.from.view_is ∙ c.requires ∙ sym c.self.view_is))
    c.lend-lent.ensures.met c.lend-lent.ensures.seat c.make-pass.ensures.still c.make-pass.ensures.seat c.hand_back-book.ensures.seat

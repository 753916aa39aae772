use Rattle.std.proofs.Common.{ap, ◌∙◌}
use Rattle.qtc_kernel.proofs.AtDesks.{desk_looked}
use Rattle.qtc_kernel.proofs.Passing.{looked_same}
use Rattle.qtc_kernel.proofs.engine.Engine.enter.Goals as goal

pub returns-clause-desk : goal.returns-clause-desk
returns-clause-desk g c =
    let is = c.desk.view_is in
    desk_looked g.F.ItemFn.value g.F.ItemFn.called c.args.self.now c.args.desk.now _ c.requires.desk (ap (λ d. d.seat.of) is) (ap (λ d. d.seat.worker.number) is) (ap (λ d. d.seat.worker.claims) is)
    (looked_same c.args.desk.now.pass c.desk.inside.pass (ap (λ d. d.pass) is))
    (ap (λ b. b.of) c.enter.ensures ∙ ap (λ d. d.badge.of) is) (ap (λ d. d.function) is) (ap (λ d. d.next_size) is) (ap (λ d. d.wants_memory) is)

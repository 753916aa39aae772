use Rattle.std.proofs.Common.{◌≡◌, ◌<◌, ◌&&◌, Bool, not, nat_lt, ◌++◌, ◌∷◌, [], false, IsTrue, ap, sym, subst, ◌∙◌}
use Rattle.std.specs.Prelude.{◌↔◌}
use Rattle.qtc_claim.specs.Claims.{Worker, after_load}
use Rattle.qtc_claim.specs.Counter.{CounterId}
use Rattle.qtc_shared.specs.Passes.{IsLook}
use Rattle.qtc_kernel.proofs.Looking.{may_exactly}
use Rattle.qtc_kernel.specs.Working.{HasLooked}
use Rattle.qtc_kernel.proofs.AtDesks.{desk_looked}
use Rattle.qtc_kernel.proofs.Passing.{looked_once}
use Rattle.qtc_kernel.proofs.engine.Engine.may_start.Goals as goal

pub returns-clause-desk : goal.returns-clause-desk
returns-clause-desk g c =
    let is = c.desk.view_is in
    let seat = c.is_open-is_open.ensures in
    let pass = c.is_canceled-is_canceled.ensures in
    desk_looked g.F.ItemFn.value g.F.ItemFn.called c.args.self.now c.args.desk.now _ c.requires.desk
    (seat.of ∙ c.self.invariant.counter ∙ ap (λ parts. parts.counter) c.self.view_is ∙ sym c.requires.desk.seated.counter)
    (ap (λ (w : Worker). w.number) seat.load ∙ ap (λ d. d.seat.worker.number) is)
    (ap (λ (w : Worker). w.claims) seat.load ∙ ap (λ d. d.seat.worker.claims) is)
    (subst (λ p. HasLooked p c.is_canceled-is_canceled.new.pass) (ap (λ d. d.pass) is) (looked_once c.desk.inside.pass c.is_canceled-is_canceled.new.pass pass.0 pass.1))
    (ap (λ b. b.of) c.count-active.ensures.load ∙ ap (λ d. d.badge.of) is) (ap (λ d. d.function) is) (ap (λ d. d.next_size) is) (ap (λ d. d.wants_memory) is)

pub returns-clause-may_start : goal.returns-clause-may_start
returns-clause-may_start g c =
    let is = c.desk.view_is in
    let parts = c.args.self.now in
    let seat = c.is_open-is_open.ensures in
    let pass = c.is_canceled-is_canceled.ensures in
    let n : c.self.inside.counter.n ≡ parts.counter.n = ap (λ (id : CounterId). id.n) (c.self.invariant.counter ∙ ap (λ it. it.counter) c.self.view_is) in
    let workers : c.self.inside.workers ≡ parts.counter.workers = c.self.invariant.workers ∙ ap (λ it. it.counter.workers) c.self.view_is in
    let answer : Bool = (c.is_open-is_open.result && not c.is_canceled-is_canceled.result) && nat_lt c.count-active.result c.self.inside.workers in
    record {
      counter = seat.load ∙ ap (λ d. after_load c.is_open-is_open.new.seat.worker.seen d.seat.worker) is;
      flags = pass.0;
      future = subst (λ d. IsLook d.pass c.is_canceled-is_canceled.new.pass pass.0) is pass.1;
      count = c.count-active.result;
      active = c.count-active.ensures.load ∙ ap (λ d. record d.badge { seen = d.badge.seen ++ c.count-active.result ∷ [] }) is;
      exactly = subst (λ b. IsTrue b ↔ ((c.is_open-is_open.new.seat.worker.seen < parts.counter.n) × (pass.0.canceled ≡ false) × (c.count-active.result < parts.counter.workers))) (sym c.may_further_start.ensures)
          (subst (λ w. IsTrue answer ↔ ((c.is_open-is_open.new.seat.worker.seen < parts.counter.n) × (pass.0.canceled ≡ false) × (c.count-active.result < w))) workers
          (subst (λ m. IsTrue answer ↔ ((c.is_open-is_open.new.seat.worker.seen < m) × (pass.0.canceled ≡ false) × (c.count-active.result < c.self.inside.workers))) n
          (may_exactly c.is_open-is_open.result c.is_canceled-is_canceled.result c.count-active.result c.self.inside.workers (c.is_open-is_open.new.seat.worker.seen < c.self.inside.counter.n) pass.0 seat.left pass.2)));
    }

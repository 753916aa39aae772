use Rattle.std.proofs.Common.{[], ap, sym, ◌∙◌, ◌<◌, subst}
use Rattle.qtc_claim.specs.Inside.{worker_of}
use Rattle.qtc_claim.proofs.Steps.{grows}
use Rattle.qtc_claim.proofs.Seats.{at_key, grow_sees, grow_later, grown_worker}
use Rattle.qtc_claim.proofs.counter.Counter.add.Goals as goal

pub fetch_add-requires : goal.fetch_add-requires
fetch_add-requires c =
    let worker = worker_of c.args.seat.now.me.0 in
    let at = at_key c.self.inside _ worker [] c.args.seat.now c.self.invariant c.self.view_is c.requires.worker in
    let n_is = sym (ap (λ l. l.n) c.self.view_is) ∙ sym (ap (λ k. k.n) c.self.invariant.key) in
    (at.at, at.word, grows c.self.inside.table.shared.key _ _ _ worker _ at.me c.requires.size (subst (λ n. worker.seen < n) n_is c.requires.left))

pub returns : goal.returns
returns c =
    let worker = worker_of c.args.seat.now.me.0 in
    let view = ap (λ m. m.0) c.requires.worker.me in
    record {
      worker = grown_worker c.args.self.now worker c.args.size c.fetch_add.result c.args.seat.now c.fetch_add.new.seat c.requires.worker c.fetch_add.ensures.0 c.fetch_add.ensures.2;
      later = grow_later c.args.self.now worker c.args.size c.fetch_add.result c.args.seat.now.me.0 c.fetch_add.new.seat.me.0 view c.fetch_add.ensures.2.1;
      sees = grow_sees _ worker c.args.size c.fetch_add.result c.args.seat.now.me.0 c.fetch_add.new.seat.me.0 view c.fetch_add.ensures.2.1;
    }

use Rattle.std.proofs.Common.{[], ap}
use Rattle.qtc_claim.specs.Inside.{worker_of}
use Rattle.qtc_claim.proofs.Steps.{looks}
use Rattle.qtc_claim.proofs.Seats.{at_key, look_sees, looked_worker}
use Rattle.qtc_claim.proofs.counter.Counter.look.Goals as goal

pub load-requires : goal.load-requires
load-requires c =
    let at = at_key c.self.inside _ (worker_of c.args.seat.now.me.0) [] c.args.seat.now c.self.invariant c.self.view_is c.requires in
    (at.at, at.word, looks _ _ _ _ _ _ at.me)

pub returns : goal.returns
returns c =
    let worker = worker_of c.args.seat.now.me.0 in
    record {
      worker = looked_worker c.args.self.now worker c.load.result c.args.seat.now c.load.new.seat c.requires c.load.ensures.0 c.load.ensures.2;
      sees = look_sees _ worker [] c.load.result c.args.seat.now.me.0 c.load.new.seat.me.0 (ap (λ m. m.0) c.requires.me) c.load.ensures.2.1;
    }

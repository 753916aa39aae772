use Rattle.std.proofs.Common.{[], ◌∷◌, ap}
use Rattle.qtc_claim.specs.Claims.{addition_at}
use Rattle.qtc_claim.specs.Inside.{worker_of}
use Rattle.qtc_claim.proofs.Parting.{cuts}
use Rattle.qtc_claim.proofs.Seats.{at_key}
use Rattle.qtc_claim.proofs.counter.Counter.cut.Goals as goal

pub split_seat-piece-requires : goal.split_seat-piece-requires
split_seat-piece-requires c =
    let at = at_key c.self.inside _ (worker_of c.args.seat.now.me.0) (addition_at c.args.begin c.args.size ∷ []) c.args.seat.now c.self.invariant c.self.view_is c.requires.worker in
    (at.at, at.word, cuts _ _ _ (ap (λ m. m.0.books) at.me))

use Rattle.std.proofs.Common.{◌≡◌, ◌++◌, arith, length, length-append, ap}
use Rattle.qtc_claim.proofs.tally.Tally.gather_seat.Goals as goal

pub overflow_add-self-2 : goal.overflow_add-self-2
overflow_add-self-2 c =
    let read = c.join.ensures.read.1 in
    let few = read.limits.few in
    let count = read.gathered.count in
    let seats = c.self.invariant.seats in
    let joined : length c.join.new.tally.me.0.workers ≡ length (c.self.inside.seat.me.0.workers ++ c.seat.inside.seat.me.0.workers) = ap (λ m. length m.0.workers) c.join.ensures.joined in
    let long = length-append c.self.inside.seat.me.0.workers c.seat.inside.seat.me.0.workers in
    let one : length c.seat.inside.seat.me.0.workers ≡ 1 = ap (λ m. length m.0.workers) c.seat.invariant.me in
    omega arith

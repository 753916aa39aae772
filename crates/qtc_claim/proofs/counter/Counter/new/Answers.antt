use Rattle.std.proofs.Common.{◌≡◌, ℕ, arith, ap, sym, ◌∙◌, rules}
use Rattle.qtc_claim.specs.Claims.{new_worker}
use Rattle.qtc_claim.specs.Counter.{SeatState}
use Rattle.qtc_claim.specs.Inside.{seat_of}
use Rattle.qtc_claim.proofs.Seats.{new_seat, next_seat}
use Rattle.qtc_claim.proofs.Parting.{makes}
use Rattle.qtc_claim.proofs.counter.Counter.new.Goals as goal

pub split_seat-seat-requires : goal.split_seat-seat-requires
split_seat-seat-requires c =
    let is = c.loop-made.invariant in
    let key = sym c.in_ok-table.ensures.5 in
    let unmade = is.unmade in
    (is.at, search rules, makes _ _ _ (omega arith) (is.n ∙ ap (λ k. k.n) key) (is.most ∙ ap (λ k. k.workers) key))

pub loop-made-preserved : goal.loop-made-preserved
loop-made-preserved c =
    let is = c.loop-made.invariant in
    let split = c.split_seat-seat.ensures in
    let state : ℕ → SeatState = λ i. record { of = record { table = c.in_ok-table.table.shared.table_id; n = c.args.n; workers = c.args.workers }; worker = new_worker i } in
    let next : seat_of c.split_seat-seat.result ≡ state c.loop-made._made =
    new_seat c.split_seat-seat.result _ c.loop-made.tally.me.0 _ _ _ (split.3 ∙ is.at) split.4 is.n is.most is.next
    in
    record {
      at = search rules;
      slots = search rules;
      n = search rules;
      most = search rules;
      next = search rules;
      unmade = search rules;
      workers = search rules;
      held = search rules;
      receipts = search rules;
      books = search rules;
      count = search rules;
      room = search rules;
      each = next_seat state c.loop-made.seats.items _ _ _ c.push_reserved.ensures.items is.count is.each next;
    }

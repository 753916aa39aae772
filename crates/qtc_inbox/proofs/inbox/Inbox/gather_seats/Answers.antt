use Rattle.std.proofs.Common.{◌≡◌, ◌++◌, ◌∷◌, [], All, ap, sym, subst, ◌∙◌, arith, append_assoc}
use Rattle.std.proofs.lemmas.List.Elements.{All-tail}
use Rattle.qtc_claim.specs.Counter.{IsGathered, SeatState, TallyState}
use Rattle.qtc_inbox.specs.Endings.{workers_of}
use Rattle.qtc_inbox.proofs.Boards.{taken_first}
use Rattle.qtc_inbox.proofs.inbox.Inbox.gather_seats.Goals as goal

pub loop-self-preserved : goal.loop-self-preserved
loop-self-preserved g c =
    let was = c.loop-self.invariant in
    let items = c.loop-self.seats.items in
    let rest = c.remove.new.self.items in
    let seat = c.remove.result in
    let counter : c.self.inside.counter ≡ c.args.self.now.key.counter = c.self.invariant.counter ∙ ap (λ it. it.key.counter) c.self.view_is in
    let are : items ≡ seat ∷ rest = taken_first items rest seat (omega arith) c.remove.ensures.value c.remove.ensures.items in
    let P : SeatState → Type 0 = λ it. it.of ≡ c.args.self.now.key.counter in
    record {
      of = ap (λ (t : TallyState). t.of) c.gather_seat.ensures.workers ∙ was.of;
      pieces = ap (λ (t : TallyState). t.pieces) c.gather_seat.ensures.workers ∙ was.pieces;
      gathered = subst (λ id. IsGathered id c.gather_seat.new.self) counter c.gather_seat.ensures.apart;
      workers =
          ap (λ (t : TallyState). t.workers ++ workers_of rest) c.gather_seat.ensures.workers
          ∙ append_assoc c.loop-self.tally.workers (seat.worker ∷ []) (workers_of rest)
          ∙ ap (λ them. c.loop-self.tally.workers ++ workers_of them) (sym are)
          ∙ was.workers;
      seats = All-tail P seat rest (subst (All P) are was.seats);
    }

use Rattle.std.proofs.Common.{◌≡◌, ◌∷◌, [], ap, sym, ◌∙◌}
use Rattle.qtc_claim.specs.Rule.{receipt_view}
use Rattle.qtc_claim.specs.Inside.{worker_of, receipted_of}
use Rattle.qtc_claim.proofs.Seats.{at_key}
use Rattle.qtc_claim.proofs.Parting.{settles}
use Rattle.qtc_claim.proofs.counter.Counter.settle.Goals as goal

pub join_seat-requires : goal.join_seat-requires
join_seat-requires c =
    let key = c.self.inside.table.shared.key in
    let here = sym c.self.view_is in
    let worker = worker_of c.args.seat.now.me.0 in
    let a = receipted_of c.args.receipt.me.0 in
    let at = at_key c.self.inside _ worker [] c.args.seat.now c.self.invariant c.self.view_is c.requires.worker in
    let n_is = ap (λ l. l.n) here ∙ sym (ap (λ k. k.n) c.self.invariant.key) in
    let most_is = ap (λ l. l.workers) here ∙ sym (ap (λ k. k.workers) c.self.invariant.key) in
    let receipt : c.args.receipt.me.0 ≡ receipt_view key.n key.workers (a ∷ []) =
    ap (λ m. m.0) c.requires.receipt ∙ ap (λ n. receipt_view n c.args.self.now.workers (a ∷ [])) n_is ∙ ap (λ most. receipt_view key.n most (a ∷ [])) most_is in (
      at.at,
      ap (λ l. l.table) (c.requires.at ∙ here),
      ap (λ m. m.1) c.requires.receipt,
      at.word,
      settles key _ _ _ _ worker a (ap (λ m. m.0) at.me) receipt c.requires.claimed,
    )

use Rattle.std.proofs.Common.{◌≡◌, ◌∷◌, [], map, ap, sym, ◌∙◌, subst, rules, All, Some}
use Rattle.qtc_claim.specs.Claims.{Book}
use Rattle.qtc_claim.specs.Rule.{token_view, back_home, back_in, first_loan}
use Rattle.qtc_claim.specs.Inside.{loan_of}
use Rattle.qtc_claim.proofs.Parting.{comes_home, came_back}
use Rattle.qtc_claim.proofs.counter.Counter.bring_home.Goals as goal

pub join_seat-requires : goal.join_seat-requires
join_seat-requires c =
    let key = c.self.inside.table.shared.key in
    let here = sym c.self.view_is in
    let loan = loan_of c.args.token.me.0 in
    let n_is = ap (λ l. l.n) here ∙ sym (ap (λ k. k.n) c.self.invariant.key) in
    let most_is = ap (λ l. l.workers) here ∙ sym (ap (λ k. k.workers) c.self.invariant.key) in
    let token : c.args.token.me.0 ≡ token_view key.n key.workers (loan ∷ []) =
    ap (λ m. m.0) c.requires.token ∙ ap (λ n. token_view n c.args.self.now.workers (loan ∷ [])) n_is ∙ ap (λ most. token_view key.n most (loan ∷ [])) most_is in (
      ap (λ l. l.table) (c.requires.of.0 ∙ here),
      ap (λ l. l.table) (c.requires.at ∙ here),
      ap (λ m. m.1) c.requires.token,
      search rules,
      comes_home key _ _ _ _ loan c.requires.one token,
    )

pub returns-clause-lent : goal.returns-clause-lent
returns-clause-lent c =
    let loan = loan_of c.args.token.me.0 in
    let was = c.args.tally.now.me.0.books in
    let home : c.join_seat.new.seat.me ≡ (back_home c.args.tally.now.me.0 c.args.token.me.0, []) = search rules in
    let books : c.join_seat.new.seat.me.0.books ≡ map (back_in (Some loan)) was =
    ap (λ m. m.0.books) home ∙ ap (λ l. map (back_in l) was) (ap (λ m. first_loan m.0.tokens) c.requires.token) in
    came_back (Some loan) was c.requires.one (subst (All (λ (book : Book). book.brought ≡ book.awaited)) books c.read.ensures.books)

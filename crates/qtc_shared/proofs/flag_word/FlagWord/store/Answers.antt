use Rattle.std.proofs.Common.{sym, subst}
use Rattle.qtc_future.specs.Legal.{IsLegal}
use Rattle.qtc_shared.specs.Journals.{Follows, Shows}
use Rattle.qtc_shared.specs.Parts.{BookPart, future_at}
use Rattle.qtc_shared.specs.Rule.{learned, terms_of}
use Rattle.qtc_shared.specs.Inside.{pass_at_seat, journal_of}
use Rattle.qtc_shared.proofs.Seats.{at_table, has_word, lent_me, terms_are}
use Rattle.qtc_shared.proofs.Steps.{enters}
use Rattle.qtc_shared.proofs.flag_word.FlagWord.store.Goals as goal

pub store-requires : goal.store-requires
store-requires g c =
    let key = c.self.inside.table.shared.key in
    let seat = c.args.seat.now in
    let pass = pass_at_seat seat in
    let number = pass.number in
    let before = journal_of seat in
    let calls = c.args.core.now.calls in
    let book : BookPart _ = record { journal = before; made = c.args.made.count } in
    let on = terms_are c.self.inside _ c.self.view_is in
    let journal = sym c.requires.journal in
    let follows : Follows (terms_of key) number before g.N.Names.journal = subst (λ j. Follows (terms_of key) number before j) journal (subst (λ t. Follows t number before calls) on c.requires.call) in
    let legal : IsLegal (future_at (terms_of key) g.N.Names.journal) = subst (λ j. IsLegal (future_at (terms_of key) j)) journal (subst (λ t. IsLegal (future_at t calls)) on (subst IsLegal c.requires.core c.journal-legal.ensures.legal)) in (
      at_table c.self.inside _ c.self.view_is seat c.requires.seat.at,
      has_word c.self.inside _ c.self.view_is c.self.invariant,
      enters key _ _ (learned before pass) book g.N.Names.journal c.args.word _ (lent_me c.self.inside _ c.self.view_is pass c.args.made.count before seat c.requires.seat)
          follows (subst (λ j. Shows j c.args.word) journal c.requires.word) legal,
    )

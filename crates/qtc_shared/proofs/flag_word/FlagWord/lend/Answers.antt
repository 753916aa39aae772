use Rattle.std.proofs.Common.{[], ◌∷◌, ap, ◌∙◌}
use Rattle.qtc_shared.specs.Parts.{BookPart}
use Rattle.qtc_shared.specs.Rule.{view_with}
use Rattle.qtc_shared.specs.Inside.{pass_in}
use Rattle.qtc_shared.proofs.Seats.{at_table, has_word, joined_me, met, below, unused, terms_are}
use Rattle.qtc_shared.proofs.Steps.{lends, meets}
use Rattle.qtc_shared.proofs.flag_word.FlagWord.lend.Goals as goal

pub join_seat-requires : goal.join_seat-requires
join_seat-requires g c = (
  at_table c.self.inside _ c.self.view_is c.args.seat.now c.requires.pass.at,
  at_table c.self.inside _ c.self.view_is c.args.book.seat c.requires.book.at,
  ap (λ m. m.1) c.requires.book.me,
  has_word c.self.inside _ c.self.view_is c.self.invariant,
  lends c.self.inside.table.shared.key _ _ _ _ c.args.self.now.terms c.args.self.now.terms (pass_in c.args.seat.now.me.0.passes) _
      (ap (λ m. m.0) c.requires.pass.me) (ap (λ m. m.0) c.requires.book.me),
)

pub load-word-requires : goal.load-word-requires
load-word-requires g c =
    let pass = pass_in c.args.seat.now.me.0.passes in
    let book : BookPart _ = record { journal = c.args.book.core.value.calls; made = c.args.book.made.count } in
    let me = joined_me c.args.self.now pass book c.args.seat.now c.args.book.seat c.join_seat.new.seat c.requires.pass c.requires.book.me c.join_seat.ensures.2 in (
      c.join_seat.ensures.0 ∙ at_table c.self.inside _ c.self.view_is c.args.seat.now c.requires.pass.at,
      has_word c.self.inside _ c.self.view_is c.self.invariant,
      meets c.self.inside.table.shared.key _ _ pass book _ (me ∙ ap (λ t. (view_with t (pass ∷ []) (book ∷ []), [])) (terms_are c.self.inside _ c.self.view_is)),
    )

pub returns-clause-met : goal.returns-clause-met
returns-clause-met g c =
    let pass = pass_in c.args.seat.now.me.0.passes in
    let book : BookPart _ = record { journal = c.args.book.core.value.calls; made = c.args.book.made.count } in
    let me = joined_me c.args.self.now pass book c.args.seat.now c.args.book.seat c.join_seat.new.seat c.requires.pass c.requires.book.me c.join_seat.ensures.2 in
    met c.args.self.now pass book _ _ (ap (λ m. m.0) me) c.load-word.ensures.2.1.1

pub returns-clause-number : goal.returns-clause-number
returns-clause-number g c =
    let pass = pass_in c.args.seat.now.me.0.passes in
    let book : BookPart _ = record { journal = c.args.book.core.value.calls; made = c.args.book.made.count } in
    let me = joined_me c.args.self.now pass book c.args.seat.now c.args.book.seat c.join_seat.new.seat c.requires.pass c.requires.book.me c.join_seat.ensures.2 in
    below c.args.self.now pass book 0 _ _ (ap (λ m. m.0) me) c.load-word.ensures.2.1.1

pub returns-clause-fresh : goal.returns-clause-fresh
returns-clause-fresh g c =
    let pass = pass_in c.args.seat.now.me.0.passes in
    let book : BookPart _ = record { journal = c.args.book.core.value.calls; made = c.args.book.made.count } in
    let me = joined_me c.args.self.now pass book c.args.seat.now c.args.book.seat c.join_seat.new.seat c.requires.pass c.requires.book.me c.join_seat.ensures.2 in
    unused c.args.self.now pass book _ _ (ap (λ m. m.0) me) c.load-word.ensures.2.1.1

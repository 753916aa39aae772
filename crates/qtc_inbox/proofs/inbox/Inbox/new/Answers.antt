use Rattle.std.proofs.Common.{ap, sym, subst, refl, ◌∙◌}
use Rattle.qtc_inbox.specs.declared.rule.View.{View}
use Rattle.qtc_inbox.specs.Boards.{parts_with}
use Rattle.qtc_inbox.specs.Inboxes.{IsNewTally}
use Rattle.qtc_inbox.specs.Line.{PlaceState}
use Rattle.qtc_inbox.proofs.Boards.{new_board}
use Rattle.qtc_inbox.proofs.inbox.Inbox.new.Goals as goal

pub board_lock-requires-clause-fits : goal.board_lock-requires-clause-fits
board_lock-requires-clause-fits g c κs within =
    let place = c.hand_out.new.place in
    let counter = ap (λ (v : View _). v.key.counter) c.in_ok-own.ensures.has ∙ ap (λ (p : PlaceState _). p.has.key.counter) c.in_ok-line.ensures.place in
    let none = ap (λ (v : View _). v.taken) c.in_ok-own.ensures.has ∙ ap (λ (p : PlaceState _). p.has.taken) c.in_ok-line.ensures.place in
    new_board (parts_with c.in_ok-line.line place.has.key c.args.pass) place c.args.tally (subst (λ it. IsNewTally it c.args.tally) (sym counter) c.requires.tally) c.in_ok-own.ensures.line refl none

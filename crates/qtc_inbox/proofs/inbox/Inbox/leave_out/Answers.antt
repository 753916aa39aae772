use Rattle.std.proofs.Common.{◌≡◌, ap, subst, sym, ◌∙◌}
use Rattle.std.specs.Prelude.{Contains}
use Rattle.std.proofs.lemmas.List.Elements.{Contains-push}
use Rattle.qtc_claim.specs.Counter.{TallyState}
use Rattle.qtc_claim.specs.Counter.{IsGathered}
use Rattle.qtc_inbox.specs.Boards.{FitTogether}
use Rattle.qtc_inbox.proofs.Boards.{board_leaves}
use Rattle.qtc_inbox.proofs.inbox.Inbox.leave_out.Goals as goal

pub returns-clause-board : goal.returns-clause-board
returns-clause-board g c =
    let parts = c.args.self.now in
    let board = c.args.board.now in
    let fits = subst (λ it. FitTogether it.key it.pass) c.self.view_is c.self.invariant.fits in
    let counter : c.self.inside.counter ≡ parts.key.counter = c.self.invariant.counter ∙ ap (λ it. it.key.counter) c.self.view_is in
    board_leaves parts fits board.place board.tally c.gather.new.self board.pass board.all_reported c.requires.board c.args.piece.addition c.requires.piece.below c.requires.piece.some c.gather.ensures.pieces
    (subst (λ id. IsGathered id c.gather.new.self) counter c.gather.ensures.apart)

pub returns-clause-gathered : goal.returns-clause-gathered
returns-clause-gathered g c =
    subst (λ pieces. Contains pieces c.args.piece.addition) (sym (ap (λ (t : TallyState). t.pieces) c.gather.ensures.pieces)) (Contains-push c.args.board.now.tally.pieces c.args.piece.addition)

use Rattle.std.proofs.Common.{sym, subst}
use Rattle.qtc_inbox.specs.Boards.{IsBoard}
use Rattle.qtc_inbox.proofs.Boards.{board_stays}
use Rattle.qtc_inbox.proofs.inbox.Inbox.meet.Goals as goal

pub put-requires-clause-fits : goal.put-requires-clause-fits
put-requires-clause-fits g c κs within =
    let board = c.take-board.result.0 in
    let fits = subst (λ it. IsBoard it board.place board.tally board.pass board.all_reported) c.self.view_is c.take-board.ensures.fits in
    subst (λ it. IsBoard it board.place board.tally c.meet.new.other board.all_reported) (sym c.self.view_is)
    (board_stays c.args.self.now board.place board.tally board.pass c.meet.new.other board.all_reported fits c.meet.ensures.other)

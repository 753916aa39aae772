use Rattle.std.proofs.Common.{sym, subst}
use Rattle.qtc_inbox.specs.Boards.{IsBoard}
use Rattle.qtc_inbox.proofs.Boards.{board_stays, if_err, met_end}
use Rattle.qtc_inbox.proofs.inbox.Inbox.drain.Goals as goal

pub put-requires-clause-fits : goal.put-requires-clause-fits
put-requires-clause-fits g c κs within =
    let new = c.drain_board-told.new.board in
    subst (λ it. IsBoard it new.place new.tally c.meet.new.other new.all_reported) (sym c.self.view_is)
    (board_stays c.args.self.now new.place new.tally new.pass c.meet.new.other new.all_reported c.drain_board-told.ensures.board c.meet.ensures.other)

pub returns-clause-memory : goal.returns-clause-memory
returns-clause-memory g c =
    let new = c.drain_board-told.new.board in
    if_err _ _ c.drain_board-told.result (met_end new.pass c.meet.new.other c.meet.new.pass c.meet.ensures.other c.meet.ensures.one) c.drain_board-told.ensures.ended

use Rattle.std.proofs.Common.{sym, subst, arith}
use Rattle.qtc_inbox.specs.Boards.{IsBoard}
use Rattle.qtc_inbox.proofs.Boards.{board_reports, ok_from}
use Rattle.qtc_inbox.proofs.inbox.Inbox.drain_then.Goals as goal

pub returns-in_err-report_one-in-Ok-clause-board : goal.returns-in_err-report_one-in-Ok-clause-board
returns-in_err-report_one-in-Ok-clause-board g c =
    let parts = c.args.self.now in
    let mid = c.drain_board.new.board in
    let new = c.report_one.new.board in
    subst (λ place. IsBoard parts place new.tally new.pass new.all_reported) (sym c.report_one.ensures.place)
    (board_reports parts mid.place mid.tally new.tally mid.pass new.pass mid.all_reported new.all_reported c.args.entry.piece.addition c.drain_board.ensures.board c.report_one.ensures.reporting c.report_one.ensures.one)

pub overflow_add-result : goal.overflow_add-result
overflow_add-result g c = let few = (ok_from _ c.drain_board.result c.in-Ok.count c.in-Ok.is c.drain_board.ensures.few).1 in omega (arith, few)

pub returns-in_ok-report_one-in-Ok-clause-board : goal.returns-in_ok-report_one-in-Ok-clause-board
returns-in_ok-report_one-in-Ok-clause-board g c =
    let parts = c.args.self.now in
    let mid = c.drain_board.new.board in
    let new = c.report_one.new.board in
    subst (λ place. IsBoard parts place new.tally new.pass new.all_reported) (sym c.report_one.ensures.place)
    (board_reports parts mid.place mid.tally new.tally mid.pass new.pass mid.all_reported new.all_reported c.args.entry.piece.addition c.drain_board.ensures.board c.report_one.ensures.reporting c.report_one.ensures.one)

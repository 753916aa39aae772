use Rattle.std.proofs.Common.{ap, sym, subst, ◌∙◌}
use Rattle.qtc_inbox.specs.Boards.{IsBoard}
use Rattle.qtc_inbox.specs.Line.{LineId}
use Rattle.qtc_inbox.proofs.Boards.{board_takes, some_from}
use Rattle.qtc_inbox.proofs.inbox.Inbox.take_one.Goals as goal

pub returns-in_err-report_one-in-Some-clause-board : goal.returns-in_err-report_one-in-Some-clause-board
returns-in_err-report_one-in-Some-clause-board g c =
    let parts = c.args.self.now in
    let board = c.args.board.now in
    let new = c.report_one.new.board in
    let line = c.pop.ensures.line ∙ ap (λ (it : LineId). it.table) (c.self.invariant.line ∙ ap (λ it. it.line) c.self.view_is) in
    let takes = some_from _ _ c.pop.result c.in-Some.entry c.in-Some.is c.pop.ensures.told in
    subst (λ place. IsBoard parts place new.tally new.pass new.all_reported) (sym c.report_one.ensures.place)
    (board_takes parts board.place c.pop.new.place board.tally new.tally board.pass new.pass board.all_reported new.all_reported c.in-Some.entry c.requires.board line takes c.report_one.ensures.reporting c.report_one.ensures.one)

pub returns-in_ok-report_one-in-Some-clause-board : goal.returns-in_ok-report_one-in-Some-clause-board
returns-in_ok-report_one-in-Some-clause-board g c =
    let parts = c.args.self.now in
    let board = c.args.board.now in
    let new = c.report_one.new.board in
    let line = c.pop.ensures.line ∙ ap (λ (it : LineId). it.table) (c.self.invariant.line ∙ ap (λ it. it.line) c.self.view_is) in
    let takes = some_from _ _ c.pop.result c.in-Some.entry c.in-Some.is c.pop.ensures.told in
    subst (λ place. IsBoard parts place new.tally new.pass new.all_reported) (sym c.report_one.ensures.place)
    (board_takes parts board.place c.pop.new.place board.tally new.tally board.pass new.pass board.all_reported new.all_reported c.in-Some.entry c.requires.board line takes c.report_one.ensures.reporting c.report_one.ensures.one)

use Rattle.std.proofs.Common.{sym, subst}
use Rattle.qtc_shared.specs.Journals.{BeginsWith}
use Rattle.qtc_kernel.specs.EngineParts.{IsBoard, reporter}
use Rattle.qtc_kernel.specs.Working.{range_in}
use Rattle.qtc_kernel.proofs.Boards.{board_stays, handed_ok}
use Rattle.qtc_kernel.proofs.Passing.{stayed_on}
use Rattle.qtc_kernel.proofs.engine.Engine.hand_in.Goals as goal

pub put-requires-clause-fits : goal.put-requires-clause-fits
put-requires-clause-fits g c κs within =
    subst (λ parts. IsBoard g.F.ItemFn.value parts c.report-told.new.board.tally c.meet.new.other c.report-told.new.board.all_reported) (sym c.self.view_is)
    (board_stays g.F.ItemFn.value c.args.self.now c.report-told.new.board.tally c.report-told.new.board.pass c.meet.new.other c.report-told.new.board.all_reported c.report-told.ensures.board c.meet.ensures.other)

pub returns-clause-ok : goal.returns-clause-ok
returns-clause-ok g c =
    let begins = (stayed_on c.report-told.new.board.pass c.meet.new.other c.meet.ensures.other).known in
    handed_ok (reporter c.args.self.now) c.report-told.new.board.pass.known c.meet.new.pass.known (range_in c.args.self.now c.args.piece) c.report-told.result
    (subst (λ k. BeginsWith k c.report-told.new.board.pass.known) (sym c.meet.ensures.one) begins)
    c.report-told.ensures.ok

use Rattle.std.proofs.Common.{◌≡◌, ℕ, List, not, ap, sym, subst, ◌∙◌}
use Rattle.qtc_claim.specs.Counter.{IsGathered}
use Rattle.qtc_future.specs.Future.{Future}
use Rattle.qtc_shared.specs.Passes.{FutureId}
use Rattle.qtc_kernel.specs.EngineParts.{FitTogether, HasBoard, IsBoard, reporter}
use Rattle.qtc_kernel.specs.Working.{IsHandedIn, range_in}
use Rattle.qtc_kernel.proofs.Boards.{board_met, code_few, code_reports, code_whole, err_from, ok_from}
use Rattle.qtc_kernel.proofs.engine.Engine.report.Goals as goal

pub report-requires-clause-few : goal.report-requires-clause-few
report-requires-clause-few g c κs within =
    let value = g.F.ItemFn.value in
    let fits = subst (FitTogether value) c.self.view_is c.self.invariant.parts in
    let has = subst HasBoard c.self.view_is c.self.invariant.plain in
    code_few value c.args.self.now fits has c.args.piece c.requires.piece _ _ c.args.values c.range-range.ensures c.requires.values c.requires.good

pub report-requires-clause-whole : goal.report-requires-clause-whole
report-requires-clause-whole g c κs within = λ plain.
    let value = g.F.ItemFn.value in
    let fits = subst (FitTogether value) c.self.view_is c.self.invariant.parts in
    let has = subst HasBoard c.self.view_is c.self.invariant.plain in
    let future : c.self.inside.future ≡ c.args.self.now.future = c.self.invariant.future ∙ ap (λ parts. parts.future) c.self.view_is in
    code_whole value c.args.self.now fits has c.args.piece c.requires.piece _ _ c.args.values c.range-range.ensures c.requires.values c.requires.good
    (ap (λ (f : FutureId). f.terms.filter) (sym future) ∙ plain)

pub returns-in-Ok-clause-board : goal.returns-in-Ok-clause-board
returns-in-Ok-clause-board g c =
    let value = g.F.ItemFn.value in
    let fits = subst (FitTogether value) c.self.view_is c.self.invariant.parts in
    let has = subst HasBoard c.self.view_is c.self.invariant.plain in
    let counter : c.self.inside.counter ≡ c.args.self.now.counter = c.self.invariant.counter ∙ ap (λ parts. parts.counter) c.self.view_is in
    let ok = ok_from _ c.report.result c.in-Ok.reply c.in-Ok.is c.report.ensures.done.ok in
    subst (IsBoard value c.args.self.now c.gather.new.self c.report.new.pass) (sym c.still_all-board.ensures)
    (code_reports value c.args.self.now fits has c.args.piece c.requires.piece _ _ c.args.values c.range-range.ensures c.requires.values c.requires.good
    c.args.board.now.tally c.gather.new.self c.args.board.now.pass c.report.new.pass c.report.ensures.journal c.args.board.now.all_reported c.requires.board c.gather.ensures.pieces (subst (λ id. IsGathered id c.gather.new.self) counter c.gather.ensures.apart)
    c.report.ensures.met c.report.ensures.pass c.in-Ok.reply ok).0

pub returns-in-Ok-clause-ok : goal.returns-in-Ok-clause-ok
returns-in-Ok-clause-ok g c =
    let value = g.F.ItemFn.value in
    let fits = subst (FitTogether value) c.self.view_is c.self.invariant.parts in
    let has = subst HasBoard c.self.view_is c.self.invariant.plain in
    let counter : c.self.inside.counter ≡ c.args.self.now.counter = c.self.invariant.counter ∙ ap (λ parts. parts.counter) c.self.view_is in
    let ok = ok_from _ c.report.result c.in-Ok.reply c.in-Ok.is c.report.ensures.done.ok in
    subst (λ drop. IsHandedIn (reporter c.args.self.now) c.report.new.pass.known (range_in c.args.self.now c.args.piece) (not drop)) (sym c.is_dropped.ensures)
    (code_reports value c.args.self.now fits has c.args.piece c.requires.piece _ _ c.args.values c.range-range.ensures c.requires.values c.requires.good
    c.args.board.now.tally c.gather.new.self c.args.board.now.pass c.report.new.pass c.report.ensures.journal c.args.board.now.all_reported c.requires.board c.gather.ensures.pieces (subst (λ id. IsGathered id c.gather.new.self) counter c.gather.ensures.apart)
    c.report.ensures.met c.report.ensures.pass c.in-Ok.reply ok).1

pub returns-in-Err-clause-board : goal.returns-in-Err-clause-board
returns-in-Err-clause-board g c =
    let err = err_from _ c.report.result c.in-Err.field-0 c.in-Err.is c.report.ensures.done.err in
    board_met g.F.ItemFn.value c.args.self.now c.args.board.now.tally c.args.board.now.pass c.report.new.pass c.args.board.now.all_reported c.report.ensures.journal c.requires.board c.report.ensures.met
    (ap (λ (f : Future (List ℕ)). f.calls) err) c.report.ensures.pass

use Rattle.std.proofs.Common.{◌≡◌, ap, sym, subst, ◌∙◌}
use Rattle.qtc_claim.specs.Counter.{IsGathered}
use Rattle.qtc_future.specs.Future.{Future}
use Rattle.qtc_future.specs.Steps.{told_by}
use Rattle.qtc_shared.specs.Passes.{FutureId}
use Rattle.qtc_inbox.specs.Boards.{FitTogether, IsReporting}
use Rattle.qtc_inbox.proofs.Boards.{code_few, code_reports, code_whole, err_from, ok_from}
use Rattle.qtc_inbox.proofs.Reporting.{beside_stayed, given_up}
use Rattle.qtc_inbox.proofs.inbox.Inbox.report.Goals as goal

pub report-requires-clause-few : goal.report-requires-clause-few
report-requires-clause-few g c κs within =
    let fits = subst (λ it. FitTogether it.key it.pass) c.self.view_is c.self.invariant.fits in
    code_few c.args.self.now fits c.args.entry c.requires.fits _ _ c.range-range.ensures

pub report-requires-clause-whole : goal.report-requires-clause-whole
report-requires-clause-whole g c κs within = λ plain.
    let fits = subst (λ it. FitTogether it.key it.pass) c.self.view_is c.self.invariant.fits in
    let future : c.self.inside.future ≡ c.args.self.now.pass.of = c.self.invariant.future ∙ ap (λ it. it.pass.of) c.self.view_is in
    code_whole c.args.self.now fits c.args.entry c.requires.fits _ _ c.range-range.ensures (ap (λ (f : FutureId). f.terms.filter) (sym future) ∙ plain)

pub returns-in-Ok-clause-reporting : goal.returns-in-Ok-clause-reporting
returns-in-Ok-clause-reporting g c =
    let parts = c.args.self.now in
    let board = c.args.board.now in
    let fits = subst (λ it. FitTogether it.key it.pass) c.self.view_is c.self.invariant.fits in
    let counter : c.self.inside.counter ≡ parts.key.counter = c.self.invariant.counter ∙ ap (λ it. it.key.counter) c.self.view_is in
    let ok = ok_from _ c.report.result c.in-Ok.reply c.in-Ok.is c.report.ensures.done.ok in
    subst (IsReporting parts c.gather.new.self c.report.new.pass) (sym c.still_all-board.ensures)
    (code_reports parts fits c.args.entry c.requires.fits _ _ c.range-range.ensures board.tally c.gather.new.self board.pass c.report.new.pass c.report.ensures.journal board.all_reported c.requires.reporting c.gather.ensures.pieces
    (subst (λ id. IsGathered id c.gather.new.self) counter c.gather.ensures.apart) c.report.ensures.met c.report.ensures.pass (told_by c.in-Ok.reply) ok).0

pub returns-in-Ok-clause-one : goal.returns-in-Ok-clause-one
returns-in-Ok-clause-one g c =
    let parts = c.args.self.now in
    let board = c.args.board.now in
    let fits = subst (λ it. FitTogether it.key it.pass) c.self.view_is c.self.invariant.fits in
    let counter : c.self.inside.counter ≡ parts.key.counter = c.self.invariant.counter ∙ ap (λ it. it.key.counter) c.self.view_is in
    let ok = ok_from _ c.report.result c.in-Ok.reply c.in-Ok.is c.report.ensures.done.ok in
    (code_reports parts fits c.args.entry c.requires.fits _ _ c.range-range.ensures board.tally c.gather.new.self board.pass c.report.new.pass c.report.ensures.journal board.all_reported c.requires.reporting c.gather.ensures.pieces
    (subst (λ id. IsGathered id c.gather.new.self) counter c.gather.ensures.apart) c.report.ensures.met c.report.ensures.pass (told_by c.in-Ok.reply) ok).1

pub returns-in-Err-clause-reporting : goal.returns-in-Err-clause-reporting
returns-in-Err-clause-reporting g c =
    let parts = c.args.self.now in
    let board = c.args.board.now in
    let fits = subst (λ it. FitTogether it.key it.pass) c.self.view_is c.self.invariant.fits in
    let counter : c.self.inside.counter ≡ parts.key.counter = c.self.invariant.counter ∙ ap (λ it. it.key.counter) c.self.view_is in
    let err = err_from _ c.report.result c.in-Err.field-0 c.in-Err.is c.report.ensures.done.err in
    let wanted = beside_stayed parts board.pass c.report.new.pass c.requires.reporting.number c.report.ensures.journal c.report.ensures.met c.report.ensures.pass (ap (λ (f : Future _). f.calls) err) in
    (given_up parts fits board.tally c.gather-in-Err.new.self board.pass c.report.new.pass c.give_up.new.pass board.all_reported c.requires.reporting c.args.entry.piece.addition c.requires.fits.below c.requires.fits.some c.gather-in-Err.ensures.pieces
    (subst (λ id. IsGathered id c.gather-in-Err.new.self) counter c.gather-in-Err.ensures.apart) wanted c.give_up.ensures.beside c.give_up.ensures.ended).0

pub returns-in-Err-clause-one : goal.returns-in-Err-clause-one
returns-in-Err-clause-one g c =
    let parts = c.args.self.now in
    let board = c.args.board.now in
    let fits = subst (λ it. FitTogether it.key it.pass) c.self.view_is c.self.invariant.fits in
    let counter : c.self.inside.counter ≡ parts.key.counter = c.self.invariant.counter ∙ ap (λ it. it.key.counter) c.self.view_is in
    let err = err_from _ c.report.result c.in-Err.field-0 c.in-Err.is c.report.ensures.done.err in
    let wanted = beside_stayed parts board.pass c.report.new.pass c.requires.reporting.number c.report.ensures.journal c.report.ensures.met c.report.ensures.pass (ap (λ (f : Future _). f.calls) err) in
    (given_up parts fits board.tally c.gather-in-Err.new.self board.pass c.report.new.pass c.give_up.new.pass board.all_reported c.requires.reporting c.args.entry.piece.addition c.requires.fits.below c.requires.fits.some c.gather-in-Err.ensures.pieces
    (subst (λ id. IsGathered id c.gather-in-Err.new.self) counter c.gather-in-Err.ensures.apart) wanted c.give_up.ensures.beside c.give_up.ensures.ended).1

use Rattle.std.proofs.Common.{false, ap, sym, subst, ◌∙◌}
use Rattle.qtc_claim.specs.Counter.{IsGathered}
use Rattle.qtc_kernel.specs.EngineParts.{IsBoard}
use Rattle.qtc_kernel.proofs.Boards.{board_leaves, board_stays, left_gathered}
use Rattle.qtc_kernel.proofs.Passing.{knows_on, stayed_on}
use Rattle.qtc_kernel.proofs.engine.Engine.gather.Goals as goal

pub put-requires-clause-fits : goal.put-requires-clause-fits
put-requires-clause-fits g c κs within =
    let value = g.F.ItemFn.value in
    let parts = c.args.self.now in
    let board = c.take-board.result.0 in
    let fits = subst (λ it. IsBoard value it board.tally board.pass board.all_reported) c.self.view_is c.take-board.ensures.fits in
    subst (λ it. IsBoard value it c.gather.new.self c.meet.new.other false) (sym c.self.view_is)
    (board_leaves value parts board.tally c.gather.new.self c.meet.new.other board.all_reported c.args.piece.addition c.requires.piece.below c.requires.piece.some (board_stays value parts board.tally board.pass c.meet.new.other board.all_reported fits c.meet.ensures.other) c.gather.ensures.pieces
    (subst (λ id. IsGathered id c.gather.new.self) (c.self.invariant.counter ∙ ap (λ it. it.counter) c.self.view_is) c.gather.ensures.apart))

pub returns-clause-left : goal.returns-clause-left
returns-clause-left g c =
    let value = g.F.ItemFn.value in
    let parts = c.args.self.now in
    let board = c.take-board.result.0 in
    let fits = subst (λ it. IsBoard value it board.tally board.pass board.all_reported) c.self.view_is c.take-board.ensures.fits in
    let counter = c.self.invariant.counter ∙ ap (λ it. it.counter) c.self.view_is in
    left_gathered value parts board.tally c.gather.new.self c.meet.new.other c.meet.new.pass board.all_reported c.args.piece.addition (board_stays value parts board.tally board.pass c.meet.new.other board.all_reported fits c.meet.ensures.other) (c.meet.ensures.one)
    (knows_on c.args.pass.now c.meet.new.pass (stayed_on c.args.pass.now c.meet.new.pass c.meet.ensures.pass) c.requires.ended) c.gather.ensures.pieces (subst (λ id. IsGathered id c.gather.new.self) counter c.gather.ensures.apart)

use Rattle.std.proofs.Common.{◌≡◌, ap, subst, ◌∙◌, map}
use Rattle.qtc_base.specs.Ranges.{Tiles}
use Rattle.qtc_claim.specs.Claims.{clipped}
use Rattle.qtc_claim.specs.Counter.{CounterId}
use Rattle.qtc_inbox.specs.Boards.{FitTogether}
use Rattle.qtc_inbox.proofs.Ended.{ended_tiles}
use Rattle.qtc_inbox.proofs.inbox.Inbox.has_ended.Goals as goal

pub returns-then-end-clause-ended : goal.returns-then-end-clause-ended
returns-then-end-clause-ended g c = (
  λ on. record { end = c.end.ensures.end.0 c.if-end.true; reported = c.requires.reporting.mark.0 on },
  λ ended. c.requires.reporting.mark.1 ended.reported,
)

pub returns-then-end-clause-tiles : goal.returns-then-end-clause-tiles
returns-then-end-clause-tiles g c = λ on.
    let parts = c.args.self.now in
    let tally = c.args.board.now.tally in
    let fits = subst (λ it. FitTogether it.key it.pass) c.self.view_is c.self.invariant.fits in
    let counter : c.self.inside.counter ≡ parts.key.counter = c.self.invariant.counter ∙ ap (λ it. it.key.counter) c.self.view_is in
    ended_tiles parts fits tally c.args.board.now.pass c.args.board.now.all_reported c.requires.reporting c.requires.lawful (c.requires.reporting.mark.0 on)
    (subst (λ (id : CounterId). Tiles (map (clipped id.n) tally.pieces) id.n) counter (c.end.ensures.tiles c.if-end.true))

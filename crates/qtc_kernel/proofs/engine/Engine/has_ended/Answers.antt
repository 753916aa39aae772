use Rattle.std.proofs.Common.{◌≡◌, ap, sym, subst, ◌∙◌}
use Rattle.qtc_base.specs.Ranges.{Tiles}
use Rattle.qtc_claim.specs.Claims.{clipped}
use Rattle.qtc_claim.specs.Counter.{CounterId}
use Rattle.std.proofs.Common.{map}
use Rattle.qtc_kernel.specs.EngineParts.{AreReported, reporter}
use Rattle.qtc_kernel.proofs.Ended.{ended_tiles}
use Rattle.qtc_kernel.proofs.engine.Engine.has_ended.Goals as goal

pub returns-then-end-clause-ended : goal.returns-then-end-clause-ended
returns-then-end-clause-ended g c =
    let parts = c.args.self.now in
    let tally = c.args.board.now.tally in
    let known = c.args.board.now.pass.known in (
      λ on. record {
        end = c.end.ensures.end.0 c.if-end.true;
        reported = subst (λ (id : CounterId). AreReported id.n (reporter parts) tally.pieces known) (sym c.requires.board.counter) (c.requires.board.mark.0 on);
      },
      λ ended. c.requires.board.mark.1 (subst (λ (id : CounterId). AreReported id.n (reporter parts) tally.pieces known) c.requires.board.counter ended.reported),
    )

pub returns-then-end-clause-tiles : goal.returns-then-end-clause-tiles
returns-then-end-clause-tiles g c = λ on.
    let parts = c.args.self.now in
    let tally = c.args.board.now.tally in
    let counter : c.self.inside.counter ≡ parts.counter = c.self.invariant.counter ∙ ap (λ it. it.counter) c.self.view_is in
    ended_tiles g.F.ItemFn.value parts tally c.args.board.now.pass c.args.board.now.all_reported c.requires.board c.requires.lawful (c.requires.board.mark.0 on)
    (subst (λ (id : CounterId). Tiles (map (clipped id.n) tally.pieces) id.n) counter (c.end.ensures.tiles c.if-end.true))

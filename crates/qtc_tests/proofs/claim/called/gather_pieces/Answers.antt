use Rattle.std.proofs.Common.{◌≡◌, ap, ◌∙◌}
use Rattle.std.proofs.lemmas.List.Elements.{All-pop}
use Rattle.qtc_claim.proofs.CallLaws.{popped_pieces}
use Rattle.qtc_tests.proofs.claim.called.gather_pieces.Goals as goal

pub loop-piece-preserved : goal.loop-piece-preserved
loop-piece-preserved c =
    let is = c.loop-piece.invariant in
    record {
      of = ap (λ t. t.of) c.gather.ensures.pieces ∙ is.of;
      workers = ap (λ t. t.workers) c.gather.ensures.pieces ∙ is.workers;
      added = popped_pieces c.loop-piece.tally.pieces c.loop-piece.pieces.items c.pop.new.self.items c.pop.result c.in-Some.piece c.gather.new.self.pieces _ c.pop.ensures.items c.in-Some.is
          (ap (λ t. t.pieces) c.gather.ensures.pieces) is.added;
      pieces = (All-pop (λ piece. piece.of ≡ c.args.counter.now) c.loop-piece.pieces.items c.pop.new.self.items c.pop.result c.pop.ensures.items is.pieces).0;
    }

use Rattle.std.proofs.Common.{◌<◌, ap, sym, subst, ◌∙◌}
use Rattle.qtc_claim.specs.Counter.{CounterId, IsGathered, TallyState}
use Rattle.qtc_inbox.specs.declared.rule.View.{View}
use Rattle.qtc_inbox.proofs.Boards.{some_from}
use Rattle.qtc_inbox.proofs.Reporting.{leaves}
use Rattle.qtc_inbox.proofs.close.leave_queued.Goals as goal

pub loop-left-preserved : goal.loop-left-preserved
loop-left-preserved g c =
    let was = c.loop-left.invariant in
    let before = c.loop-left.board in
    let entry = c.in-Some.entry in
    let takes = some_from _ _ c.pop.result entry c.in-Some.is c.pop.ensures.told in
    record {
      line = c.pop.ensures.line;
      counter = ap (λ (t : TallyState). t.of) c.gather.ensures.pieces ∙ was.counter;
      key = ap (λ (v : View _). v.key.counter) takes.is ∙ was.key;
      pass = was.pass;
      kept = λ parts same fits is.
          leaves parts fits before.tally c.gather.new.self c.args.board.now.pass before.all_reported (was.kept parts same fits is) entry.piece.addition
          (subst (λ (id : CounterId). entry.piece.addition.begin < id.n) (was.key ∙ sym same) takes.fits.below) takes.fits.some c.gather.ensures.pieces
          (subst (λ id. IsGathered id c.gather.new.self) (sym same) c.gather.ensures.apart);
    }

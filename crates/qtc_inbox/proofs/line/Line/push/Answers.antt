use Rattle.std.proofs.Common.{ap, subst, sym}
use Rattle.crossbeam_queue.specs.Passes.{view}
use Rattle.qtc_inbox.specs.Rule.{Fits}
use Rattle.qtc_inbox.proofs.Steps.{puts, learns}
use Rattle.qtc_inbox.proofs.line.Line.push.Goals as goal

pub push_as-requires-clause-rule : goal.push_as-requires-clause-rule
push_as-requires-clause-rule g c =
    let v = view c.place.inside.pass in
    let fits = subst (λ key. Fits key c.args.entry) (sym (ap (λ place. place.has.key) c.place.view_is)) c.requires.fits in
    (puts _ _ v c.args.entry c.place.invariant.part fits, learns _ v c.place.invariant.part)

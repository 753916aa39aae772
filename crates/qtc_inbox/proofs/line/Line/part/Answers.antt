use Rattle.std.proofs.Common.{◌≤◌, ap, subst, sym}
use Rattle.crossbeam_queue.specs.Passes.{view}
use Rattle.qtc_inbox.proofs.Steps.{forks}
use Rattle.qtc_inbox.proofs.line.Line.part.Goals as goal

pub another-pass-requires-clause-rule : goal.another-pass-requires-clause-rule
another-pass-requires-clause-rule g c =
    forks _ (view c.place.inside.pass) (subst (λ n. 2 ≤ n) (sym (ap (λ place. place.has.parts) c.place.view_is)) c.requires.parts)

use Rattle.std.proofs.Common.{[], ◌∷◌, arith}
use Rattle.qtc_job.proofs.ManyLemmas.{more, past, least-swap}
use Rattle.qtc_job.proofs.LeastLemmas.{is-one}
use Rattle.qtc_job.proofs.places.read_many.Goals as goal

pub returns-then-count-most : goal.returns-then-count-most
returns-then-count-most g c =
    let r = c.loop-word.invariant in
    rw (past _ _ _ _ _ _ _ _ _ _ r c.in-Some.ensures.steps c.if-count-most.true) (least-swap (13 ∷ []) _ _ (c.least_with.ensures (13 ∷ []) _ (is-one 13 (omega arith)) r.so_far.least))

pub loop-word-preserved : goal.loop-word-preserved
loop-word-preserved g c =
    let r = c.loop-word.invariant in
    more _ _ _ _ _ _ _ _ _ _ _ _ r c.in-Some.ensures.steps c.if-count-most.false (c.in_ok-take.ensures _ _ _ _ r.so_far c.read.ensures)

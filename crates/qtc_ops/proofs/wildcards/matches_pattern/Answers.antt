use Rattle.qtc_ops.proofs.WildcardLemmas.{Tries-star, Tries-one}
use Rattle.qtc_ops.proofs.wildcards.matches_pattern.Goals as goal

pub steps-preserved-in-Some : goal.steps-preserved-in-Some
steps-preserved-in-Some c = Tries-star _ _ _ _ _ _ _ _ c.in-Some.ensures.any_run c.seek-from.ensures.same c.steps.invariant

pub steps-preserved-in-Some-after_one : goal.steps-preserved-in-Some-after_one
steps-preserved-in-Some-after_one c =
    Tries-one _ _ _ _ _ _ _ _ c.in_default.ensures.other c.in-Some-after_one.ensures.fits c.steps.invariant

-- What a job's chain makes of its outcome. (After QFuture's then, onFailed and onCanceled; own.)
use Rattle.std.specs.Prelude.{ℕ, List, [], ◌∷◌, fold}
use Rattle.qtc_future.specs.declared.replies.Outcome.{Outcome}
use Rattle.qtc_future.specs.declared.replies.Outcome.TheVariants.{Values, Failed, Canceled}
use Rattle.qtc_job_file.specs.declared.jobs.ChainOp.{ChainOp}
use Rattle.qtc_job_file.specs.declared.jobs.ChainOp.TheVariants.{Then, OnFailed, OnCanceled}
use Rattle.qtc_ops.specs.ListOps.{list_value}

-- values become those that the operation gives, and a failure or a cancel becomes the one value of its handler; each
-- step passes on the rest
abbrev pub after_step : Outcome (List ℕ) → ChainOp → Outcome (List ℕ)
after_step (Values values) (Then op) = Values (list_value op values)
after_step (Failed failure) (OnFailed text) = Values (text ∷ [])
after_step Canceled (OnCanceled text) = Values (text ∷ [])
after_step outcome step = outcome

-- the outcome after the steps, from the first line of the chain
abbrev pub chained : Outcome (List ℕ) → List ChainOp → Outcome (List ℕ)
chained outcome steps = fold after_step outcome steps

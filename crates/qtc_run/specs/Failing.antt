-- Which items of a job fail. (Own.)
use Rattle.std.specs.Prelude.{◌≡◌, ℕ, Bool, false, List, Contains, Option, None, Some}
use Rattle.qtc_future.specs.declared.replies.Failure.{Failure}
use Rattle.qtc_job_file.specs.declared.jobs.Job.{Job}
use Rattle.qtc_kernel.specs.Workload.{item_at}
use Rattle.qtc_ops.specs.Folds.{is_bad}
use Rattle.qtc_ops.specs.Kept.{fails, fails_at}
use Rattle.qtc_ops.specs.Operations.{value_of}
use Rattle.qtc_ops.specs.declared.fold_ops.FoldOp.{FoldOp}
use Rattle.qtc_run.specs.Sources.{work_over}

-- the kept texts that are bad for a fold
abbrev pub is_refused : Option FoldOp → List ℕ → Bool
is_refused None text = false
is_refused (Some fold) text = is_bad fold text

-- the value of the item is bad, or a kept text that is bad for the fold
abbrev pub fails_in : Job → List ℕ → Bool
fails_in job item = fails_at (is_refused job.fold) (value_of job.op item)

-- the indexes of the items that fail, ascending
abbrev pub failing_indexes : Job → List (List ℕ) → List ℕ
failing_indexes job items = fails (value_of job.op) (is_refused job.fold) items

-- one of the items that fail, and its index
pub record IsFailing (job : Job) (items : List (List ℕ)) (failure : Failure) : Type 0 where
  pub among : Contains (failing_indexes job items) failure.index
  pub item_is : failure.item ≡ item_at (work_over job items) failure.index

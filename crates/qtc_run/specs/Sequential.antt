-- The sequential answer of a job: the map, filter or left fold of its items, which knows no worker, block or store. (Own.)
use Rattle.std.specs.Prelude.{ℕ, ◌+◌, List, [], ◌∷◌, length, Option, None, Some}
use Rattle.qtc_future.specs.declared.replies.Outcome.{Outcome}
use Rattle.qtc_future.specs.declared.replies.Outcome.TheVariants.{Values, Failed}
use Rattle.qtc_job_file.specs.declared.jobs.Job.{Job}
use Rattle.qtc_kernel.specs.Workload.{item_at, kept_texts}
use Rattle.qtc_ops.specs.Folds.{folded, shown_of}
use Rattle.qtc_ops.specs.declared.fold_ops.FoldOp.{FoldOp}
use Rattle.qtc_run.specs.Failing.{failing_indexes}
use Rattle.qtc_run.specs.Sources.{work_over}

-- the kept texts, or the one text that a fold makes of them, from the left
abbrev pub values_after : Option FoldOp → List (List ℕ) → List (List ℕ)
values_after None texts = texts
values_after (Some fold) texts = shown_of (folded fold texts) ∷ []

-- the values of all kept texts by ascending index, or else the first item that fails
abbrev pub ended_with : Job → List (List ℕ) → List ℕ → Outcome (List ℕ)
ended_with job items [] = Values (values_after job.fold (kept_texts (work_over job items)))
ended_with job items (index ∷ others) = Failed (record { index = index; item = item_at (work_over job items) index })

abbrev pub sequential : Job → List (List ℕ) → Outcome (List ℕ)
sequential job items = ended_with job items (failing_indexes job items)

-- how many results such a run accounts for: each item, and the text of a fold as one more
abbrev pub counted_with : Option FoldOp → ℕ → ℕ
counted_with None number = number
counted_with (Some fold) number = number + 1

abbrev pub full_count : Job → List (List ℕ) → ℕ
full_count job items = counted_with job.fold (length items)

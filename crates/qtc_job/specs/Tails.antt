-- The words of a line after the first, as they are appended. (Own.)
use Rattle.std.specs.Prelude.{ℕ, List, ◌∷◌, ◌++◌, [], map}
use Rattle.std.specs.List.{flat_map}
use Rattle.qtc_base.specs.Decimal.{decimal_text}
use Rattle.qtc_job_file.specs.declared.jobs.Job.{Job}
use Rattle.qtc_job_file.specs.declared.keywords.Keyword.TheVariants as word
use Rattle.qtc_job_file.specs.Keywords.{spelling}
use Rattle.qtc_job_file.specs.Canonical.{after_lines, chain_words, ended_line, fold_lines, priority_text, watch_lines}

-- each after one space
abbrev pub spaced : List ℕ → List ℕ
spaced word = 32 ∷ word

abbrev pub tail : List (List ℕ) → List ℕ
tail words = flat_map spaced words

-- the text of lines
abbrev pub ended_lines : List (List (List ℕ)) → List ℕ
ended_lines lines = flat_map ended_line lines

-- the lines of a job after its function
abbrev pub back_lines : Job → List (List (List ℕ))
back_lines job =
    fold_lines job.fold job.ordered
    ++ ((spelling word.Blocks ∷ map decimal_text job.blocks) ∷ (spelling word.Priority ∷ priority_text job.priority ∷ [])
    ∷ (after_lines (spelling word.CancelAfter) job.cancel_after ++ (after_lines (spelling word.SuspendAfter) job.suspend_after
    ++ (watch_lines job.watch ++ map chain_words job.chain))))

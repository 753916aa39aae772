-- Which jobs are run so far: maps and filters of texts. (Own.)
use Rattle.std.specs.Prelude.{Bool, true, false, not, ◌&&◌, ◌==◌, is_none, List, length}
use Rattle.std.specs.List.{list_all}
use Rattle.qtc_job_file.specs.declared.jobs.Input.{Input}
use Rattle.qtc_job_file.specs.declared.jobs.Input.TheVariants.{Lines, Files, Pieces}
use Rattle.qtc_job_file.specs.declared.jobs.Job.{Job}

abbrev pub reads_texts : Input → Bool
reads_texts (Lines name) = true
reads_texts (Files names) = true
reads_texts (Pieces size name) = true
reads_texts _ = false

-- it reads texts, and has no fold, no number of items to stop after, no watcher and no chain
abbrev pub is_runnable : Job → Bool
is_runnable job =
    reads_texts job.input && (is_none job.fold && (job.cancel_after == 0 && (job.suspend_after == 0
    && (not job.watch && length job.chain == 0))))

abbrev pub are_runnable : List Job → Bool
are_runnable jobs = list_all is_runnable jobs

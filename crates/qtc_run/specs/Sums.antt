-- Where the items of a run are too many. (Own.)
use Rattle.std.specs.Prelude.{◌≡◌, ℕ, ◌+◌, ◌<◌, ◌≤◌, List, [], length, map, take, All, Some, slice_get, slice_index_or}
use Rattle.std.specs.List.{flat_map}
use Rattle.qtc_base.specs.Items.{PassesLimit, total_bytes}
use Rattle.qtc_base.specs.Limits.{most_jobs}
use Rattle.qtc_future.specs.declared.replies.Outcome.{Outcome}
use Rattle.qtc_job_file.specs.Laws.{IsSized}
use Rattle.qtc_job_file.specs.declared.jobs.Job.{Job}
use Rattle.qtc_run.specs.declared.reports.JobReport.{JobReport}
use Rattle.qtc_run.specs.declared.reports.RunFault.{RunFault}
use Rattle.qtc_run.specs.declared.reports.RunFault.TheVariants.{TooLarge, Memory}
use Rattle.qtc_run.specs.declared.sizes.Size.{Size}
use Rattle.qtc_run.specs.Loaded.{HasAll}
use Rattle.qtc_run.specs.Outputs.{AreReportsBefore}
use Rattle.qtc_run.specs.RunOrder.{round_at, run_order}
use Rattle.qtc_run.specs.Sources.{Source, Texts, given, items_in, names_of_all, outcomes_of, source_of}

-- the sources of all jobs of a file
abbrev pub sources_of : Texts → List Job → List (Outcome (List ℕ)) → List Source
sources_of texts jobs outcomes = map (λ (job : Job). source_of texts jobs outcomes job.input) jobs

-- the items of the source at a place
abbrev pub items_at : List Source → ℕ → List (List ℕ)
items_at sources place = items_in (slice_index_or sources place (given []))

-- the items of all sources, in the order in which the jobs are run; those of a text that two jobs read count twice
abbrev pub items_of_run : Texts → List Job → List (Outcome (List ℕ)) → List (List ℕ)
items_of_run texts jobs outcomes = flat_map (items_at (sources_of texts jobs outcomes)) (run_order jobs)

-- those of so many jobs
abbrev pub items_of_first : ℕ → Texts → List Job → List (Outcome (List ℕ)) → List (List ℕ)
items_of_first count texts jobs outcomes =
    flat_map (items_at (sources_of texts jobs outcomes)) (take count (run_order jobs))

-- with the job at this place, and with no job that is run before it, the items pass a limit, where the jobs of the rounds
-- before are reported as they may be; these are their number and their bytes
pub record PassesWith (texts : Texts) (jobs : List Job) (place items bytes : ℕ) : Type 0 where
  pub earlier : List JobReport
  pub are_reports : AreReportsBefore (round_at jobs place) texts jobs earlier
  pub before : ℕ
  pub place_is : slice_get (run_order jobs) before ≡ Some place
  pub passes : PassesLimit (items_of_first (before + 1) texts jobs (outcomes_of earlier))
  pub first : (count : ℕ) → count < before + 1 → ¬ PassesLimit (items_of_first count texts jobs (outcomes_of earlier))
  pub items_are : items ≡ length (items_of_first (before + 1) texts jobs (outcomes_of earlier))
  pub bytes_are : bytes ≡ total_bytes (items_of_first (before + 1) texts jobs (outcomes_of earlier))

-- with no job the items of a run pass a limit, whatever the jobs before it report
abbrev pub Fits : Texts → List Job → Type 0
Fits texts jobs = (place items bytes : ℕ) → ¬ PassesWith texts jobs place items bytes

-- too large is answered with the first job that passes a limit; want of memory may come in its place
abbrev pub RefusesRun : Texts → List Job → RunFault → Type 0
RefusesRun texts jobs (TooLarge place items bytes) = PassesWith texts jobs place items bytes
RefusesRun texts jobs Memory = Unit {0}

-- ---- what is counted before a run

pub record IsSizeOf (items : List (List ℕ)) (size : Size) : Type 0 where
  pub number : size.items ≡ length items
  pub bytes : size.bytes ≡ total_bytes items

-- every text that the jobs name is there, and their sizes can be added
pub record CanCount (texts : Texts) (jobs : List Job) : Type 0 where
  pub few : length jobs ≤ most_jobs
  pub named : HasAll texts (names_of_all jobs)
  pub sized : All (λ (job : Job). IsSized job.input) jobs

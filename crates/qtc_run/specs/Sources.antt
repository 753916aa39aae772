-- What a job works on: items, of texts or of earlier jobs, or an outcome that it passes on. (Own.)
use Rattle.std.specs.Prelude.{ℕ, ◌+◌, ◌*◌, ◌/◌, ◌-◌, ◌==◌, min, List, [], ◌∷◌, ◌++◌, length, map, slice_range, slice_index_or, position, Option, None, unwrap_or}
use Rattle.std.specs.List.{flat_map, range_with_len}
use Rattle.std.specs.Option.{option_and_then}
use Rattle.qtc_base.specs.Lines.{lines}
use Rattle.qtc_future.specs.declared.replies.Outcome.{Outcome}
use Rattle.qtc_future.specs.declared.replies.Outcome.TheVariants.{Values, Failed, Canceled}
use Rattle.qtc_job_file.specs.declared.jobs.Input.{Input}
use Rattle.qtc_job_file.specs.declared.jobs.Input.TheVariants.{Lines, Files, Pieces, Job, All, Any}
use Rattle.qtc_job_file.specs.declared.jobs.Job.{Job as JobOf}
pub use Rattle.qtc_job_file.specs.Texts.{Texts, names_of, names_of_all, text_of}
use Rattle.qtc_kernel.specs.Workload.{Workload, workload}
use Rattle.qtc_ops.specs.Operations.{value_of}
use Rattle.qtc_run.specs.RunOrder.{first_finished}
use Rattle.qtc_run.specs.declared.reports.JobReport.{JobReport}

-- ---- the items of texts

-- how many pieces of so many bytes a text has, the last one perhaps shorter
abbrev pub piece_count : ℕ → List ℕ → ℕ
piece_count size text = (length text + (size - 1)) / size

-- the piece at a place, from 0
abbrev pub piece_at : ℕ → List ℕ → ℕ → List ℕ
piece_at size text place = slice_range text (place * size) (min (place * size + size) (length text))

-- the text in pieces of so many bytes; the last has what is left, and an empty text has none
abbrev pub pieces_of : ℕ → List ℕ → List (List ℕ)
pieces_of size text = map (piece_at size text) (range_with_len 0 (piece_count size text))

-- the items that an input has of texts; those of earlier jobs are none of a text's
abbrev pub items_of : Texts → Input → List (List ℕ)
items_of texts (Lines name) = lines (text_of texts name)
items_of texts (Files names) = map (text_of texts) names
items_of texts (Pieces size name) = pieces_of size (text_of texts name)
items_of texts (Job place) = []
items_of texts (All places) = []
items_of texts (Any places) = []

-- the items of jobs that read texts, one job after the other
abbrev pub items_of_all : Texts → List JobOf → List (List ℕ)
items_of_all texts jobs = flat_map (λ (job : JobOf). items_of texts job.input) jobs

-- ---- sources

-- the source of a job
pub data Source : Type 0 where
  given : List (List ℕ) → Source
  passed : Outcome (List ℕ) → Source

-- the values of an earlier job are items; any other outcome is passed on
abbrev pub source_from : Outcome (List ℕ) → Source
source_from (Values values) = given values
source_from (Failed failure) = passed (Failed failure)
source_from Canceled = passed Canceled

-- values before those of other jobs
abbrev pub values_before : List (List ℕ) → Source → Source
values_before values (given others) = given (values ++ others)
values_before values (passed outcome) = passed outcome

-- the values of all these jobs, one list after the other, or the first outcome that has none
abbrev pub source_from_all : List (Outcome (List ℕ)) → Source
source_from_all [] = given []
source_from_all (Values values ∷ outcomes) = values_before values (source_from_all outcomes)
source_from_all (Failed failure ∷ outcomes) = passed (Failed failure)
source_from_all (Canceled ∷ outcomes) = passed Canceled

abbrev pub outcomes_of : List JobReport → List (Outcome (List ℕ))
outcomes_of reports = map (λ report. report.ended) reports

-- the outcome of the job at a place; a lawful file names no place without a job
abbrev pub outcome_at : List (Outcome (List ℕ)) → ℕ → Outcome (List ℕ)
outcome_at outcomes place = slice_index_or outcomes place (Values [])

-- the source of an input, from the texts and the outcomes of the jobs: of the jobs that `input any` names the one that
-- finishes first gives it
abbrev pub source_of : Texts → List JobOf → List (Outcome (List ℕ)) → Input → Source
source_of texts jobs outcomes (Lines name) = given (items_of texts (Lines name))
source_of texts jobs outcomes (Files names) = given (items_of texts (Files names))
source_of texts jobs outcomes (Pieces size name) = given (items_of texts (Pieces size name))
source_of texts jobs outcomes (Job place) = source_from (outcome_at outcomes place)
source_of texts jobs outcomes (All places) = source_from_all (map (outcome_at outcomes) places)
source_of texts jobs outcomes (Any places) = source_from (outcome_at outcomes (unwrap_or (first_finished jobs places) 0))

-- which of the jobs that `input any` names that is, as its first place in the list
abbrev pub choice_of : List JobOf → Input → Option ℕ
choice_of jobs (Any places) = option_and_then (λ first. position (λ place. place == first) places) (first_finished jobs places)
choice_of jobs (Lines name) = None
choice_of jobs (Files names) = None
choice_of jobs (Pieces size name) = None
choice_of jobs (Job place) = None
choice_of jobs (All places) = None

-- the items of a source; an outcome that is passed on has none
abbrev pub items_in : Source → List (List ℕ)
items_in (given items) = items
items_in (passed outcome) = []

-- ---- what a job's function makes of its items

abbrev pub work_over : JobOf → List (List ℕ) → Workload
work_over job items = workload items (value_of job.op)

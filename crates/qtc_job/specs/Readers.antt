-- What a reader has read of a job file. (Own.)
use Rattle.std.specs.Prelude.{◌≡◌, ℕ, ◌+◌, ◌<◌, true, false, is_some, List, [], ◌∷◌, ◌++◌, Option, Some, None, unwrap_or, Result, Ok, Err}
use Rattle.std.specs.List.{list_any}
use Rattle.qtc_job.specs.declared.drafts.Draft.{Draft}
use Rattle.qtc_job_file.specs.declared.jobs.Job.{Job}
use Rattle.qtc_job_file.specs.declared.jobs.JobFile.{JobFile}
use Rattle.qtc_job.specs.declared.faults.ParseFault.{ParseFault}
use Rattle.qtc_job.specs.declared.faults.ParseFault.TheVariants as fault
use Rattle.qtc_job.specs.declared.readers.Reader.{Reader}
use Rattle.qtc_job.specs.declared.refusals.Refusal.{Refusal}
use Rattle.qtc_job.specs.declared.refusals.Refusal.TheVariants as refusal
use Rattle.qtc_job.specs.Answers.{least, IsLeast}
use Rattle.qtc_job_file.specs.Canonical.{names_of}
use Rattle.qtc_job.specs.Codes.{is_in_job, names_above, earlier_names, own_above, own_below, own_codes, job_codes}
use Rattle.qtc_job_file.specs.declared.keywords.Keyword.{Keyword}
use Rattle.qtc_job.specs.Statements.{statement_of}
use Rattle.qtc_job.specs.Drafts.{IsDraft, with_statement}
use Rattle.qtc_job.specs.Lines.{Line, job, says, is_workers}
use Rattle.qtc_job.specs.Marks.{IsMarks}
use Rattle.qtc_job.specs.Meaning.{job_of, jobs_of, workers_of}
use Rattle.qtc_job.specs.Search.{found, first_bad, settled}

-- a line that is no job line and begins with no directive of a job
abbrev pub IsUnmarked : Line → Type 0
IsUnmarked (job args) = ⊥
IsUnmarked (says keyword args) = ⊥
IsUnmarked _ = Unit {0}

-- ---- what is still open of the first bad pair, the workers and the jobs, at the lines that are left

-- the code of the job line of a draft waits for the end of the job
abbrev pub open_bad : Option Draft → List Line → ℕ → List Line → Option (ℕ × ℕ)
open_bad None above line rest = first_bad above line rest
open_bad (Some draft) above line rest = found (least (job_codes (own_above above ++ own_below rest))) draft.line (first_bad above line rest)

abbrev pub open_workers : Option ℕ → List Line → ℕ
open_workers workers rest = unwrap_or workers (workers_of rest)

abbrev pub open_jobs : List Job → Option Draft → List Line → List Line → List Job
open_jobs jobs None above rest = jobs ++ jobs_of (names_of jobs) rest
open_jobs jobs (Some draft) above rest =
    jobs ++ job_of (names_of jobs) draft.name (own_above above ++ own_below rest) ∷ jobs_of (names_of jobs ++ draft.name ∷ []) rest

-- ---- a reader that has read these lines, nearest first

abbrev pub draft_names : Option Draft → List (List ℕ)
draft_names None = []
draft_names (Some draft) = draft.name ∷ []

abbrev pub IsDraftBelow : List Line → ℕ → List Job → Option Draft → Type 0
IsDraftBelow above line jobs None = (is_in_job above ≡ false) × (jobs ≡ []) × (earlier_names above ≡ [])
IsDraftBelow above line jobs (Some draft) =
    (is_in_job above ≡ true) × (earlier_names above ≡ names_of jobs) × IsDraft (names_of jobs) (own_above above) draft × (draft.line < line)

-- with this line as the next one
pub record IsReader (above : List Line) (line : ℕ) (reader : Reader) : Type 0 where
  pub workers : list_any is_workers above ≡ is_some reader.workers
  pub names : names_above above ≡ names_of reader.jobs ++ draft_names reader.draft
  pub draft : IsDraftBelow above line reader.jobs reader.draft

-- what was open before a line is open after it
pub record IsStep (above : List Line) (line : ℕ) (l : Line) (old new : Reader) : Type 0 where
  pub bad : (rest : List Line) → open_bad old.draft above line (l ∷ rest) ≡ open_bad new.draft (l ∷ above) (line + 1) rest
  pub workers : (rest : List Line) → open_workers old.workers (l ∷ rest) ≡ open_workers new.workers rest
  pub jobs : (rest : List Line) → open_jobs old.jobs old.draft above (l ∷ rest) ≡ open_jobs new.jobs new.draft (l ∷ above) rest

-- what a refusal at a line tells of the first bad pair
abbrev pub IsRefusal : List Line → ℕ → Line → Option Draft → Refusal → Type 0
IsRefusal above line l draft refusal.Memory = Unit {0}
IsRefusal above line l draft (refusal.Bad bad) =
    (rest : List Line) → open_bad draft above line (l ∷ rest) ≡ Some (bad.line, bad.code)
IsRefusal above line l draft (refusal.InJob job_line marks code) =
    (own : List Line) × IsMarks own marks
    × ((rest : List Line) → open_bad draft above line (l ∷ rest) ≡ settled (least (job_codes (own ++ own_below rest))) job_line code line)

-- the answer on one line
abbrev pub Takes : List Line → ℕ → Line → Reader → Reader → Result (Unit {0}) Refusal → Type 0
Takes above line l old new (Ok done) = IsReader (l ∷ above) (line + 1) new × IsStep above line l old new
Takes above line l old new (Err refusal) = IsRefusal above line l old.draft refusal

-- a reader whose last job has ended, at a job line or at the end of the file
pub record IsClosed (above : List Line) (line : ℕ) (old new : Reader) : Type 0 where
  pub workers : new.workers ≡ old.workers
  pub seen : list_any is_workers above ≡ is_some new.workers
  pub names : names_above above ≡ names_of new.jobs
  pub draft : new.draft ≡ None
  pub bad : (args : List (List ℕ)) (rest : List Line) → open_bad old.draft above line (job args ∷ rest) ≡ first_bad above line (job args ∷ rest)
  pub jobs : (args : List (List ℕ)) (rest : List Line) → open_jobs old.jobs old.draft above (job args ∷ rest) ≡ new.jobs ++ jobs_of (names_of new.jobs) (job args ∷ rest)
  pub end_bad : open_bad old.draft above line [] ≡ None
  pub end_jobs : open_jobs old.jobs old.draft above [] ≡ new.jobs

-- what a refusal at the end of the file tells of the first bad pair
abbrev pub IsEndRefusal : List Line → ℕ → Option Draft → Refusal → Type 0
IsEndRefusal above line draft refusal.Memory = Unit {0}
IsEndRefusal above line draft (refusal.Bad bad) = open_bad draft above line [] ≡ Some (bad.line, bad.code)
IsEndRefusal above line draft (refusal.InJob job_line marks code) = ⊥

abbrev pub Closes : List Line → ℕ → Reader → Reader → Result (Unit {0}) Refusal → Type 0
Closes above line old new (Ok done) = IsClosed above line old new
Closes above line old new (Err refused) =
    ((args : List (List ℕ)) → IsRefusal above line (job args) old.draft refused) × IsEndRefusal above line old.draft refused

-- a job line that was left above has the least of these codes
abbrev pub IsJobRefusal : List ℕ → ℕ → Refusal → Type 0
IsJobRefusal codes line refusal.Memory = Unit {0}
IsJobRefusal codes line (refusal.Bad bad) = (bad.line ≡ line) × IsLeast codes bad.code
IsJobRefusal codes line (refusal.InJob job_line marks code) = ⊥

-- at this line no job line above waits for its lines
abbrev pub IsOpenAt : List Line → ℕ → Option Draft → Line → Type 0
IsOpenAt above line draft l = (rest : List Line) → open_bad draft above line (l ∷ rest) ≡ first_bad above line (l ∷ rest)

-- a draft with what a line without codes says
abbrev pub Adds : List Line → ℕ → Keyword → List (List ℕ) → Draft → Draft → Result (Unit {0}) Refusal → Type 0
Adds above line keyword args old new (Ok done) =
    (own_codes above (says keyword args) ≡ []) × (new ≡ with_statement old (statement_of (earlier_names above) keyword args))
Adds above line keyword args old new (Err refused) = IsRefusal above line (says keyword args) (Some old) refused

-- a fault that tells of the first bad pair
abbrev pub IsFirst : Option (ℕ × ℕ) → ParseFault → Type 0
IsFirst first (fault.Bad bad) = first ≡ Some (bad.line, bad.code)
IsFirst first fault.Memory = Unit {0}

-- the file that a reader has read at the end of the lines
abbrev pub Ends : List Line → ℕ → Reader → Result JobFile ParseFault → Type 0
Ends above line reader (Ok file) =
    (open_bad reader.draft above line [] ≡ None) × (file.workers ≡ open_workers reader.workers []) × (file.jobs ≡ open_jobs reader.jobs reader.draft above [])
Ends above line reader (Err refused) = IsFirst (open_bad reader.draft above line []) refused

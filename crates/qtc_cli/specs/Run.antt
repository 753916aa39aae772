-- What a call that runs a job file comes to. (Own.)
use Rattle.std.specs.Prelude.{◌≡◌, ◌≢◌, ◌⊎◌, ◌↔◌, ◌≤◌, ℕ, List, length, map, All, Option, Some, None, unwrap_or, IsTrue, if◌then◌else◌}
use Rattle.qtc_base.specs.Items.{PassesLimit}
use Rattle.qtc_outside.specs.Source.{Source, IsCalm}
use Rattle.qtc_outside.specs.Intake.{Intake, Takes, IsCut}
use Rattle.qtc_outside.specs.Loading.{FailsToLoad, IsTooLong}
use Rattle.qtc_outside.specs.declared.loading.LoadFault.{LoadFault}
use Rattle.qtc_outside.specs.declared.loading.LoadFault.TheVariants.{Read, TooLong}
use Rattle.qtc_job_file.specs.declared.jobs.JobFile.{JobFile}
use Rattle.qtc_job.specs.Grammar.{Reads}
use Rattle.qtc_base.specs.Limits.{most_job_file, most_text, most_texts}
use Rattle.qtc_job.specs.Lines.{lines_of}
use Rattle.qtc_run.specs.GoodRuns.{AreGood}
use Rattle.qtc_run.specs.Outputs.{IsOutput, has_failed}
use Rattle.qtc_run.specs.Runnable.{are_runnable}
use Rattle.qtc_run.specs.Sources.{outcomes_of}
use Rattle.qtc_run.specs.Sums.{Fits, PassesWith, items_of_run}
use Rattle.qtc_job_file.specs.Texts.{Texts}
use Rattle.qtc_run.specs.declared.reports.Report.{Report}
use Rattle.qtc_cli.specs.Answered.{IsDone, KeepsOutside, IsBadJob, HasNoFaults}
use Rattle.qtc_cli.specs.Check.{IsCheck}
use Rattle.qtc_cli.specs.Endings.{IsRefused, Writes}
use Rattle.qtc_cli.specs.Forms.{Form, form, run, check}
use Rattle.qtc_load.specs.Loads.{LoadsFile, LoadsBad, LoadsTexts, StopsAt, texts_named, name_of, bytes_of}
use Rattle.qtc_cli.specs.Seen.{Seen}
use Rattle.qtc_cli.specs.declared.refusals.Refusal.{Refusal}
use Rattle.qtc_cli.specs.declared.refusals.Refusal.TheVariants.{Bad, ReadFault, Memory, TooLarge, NotYet}

-- the words are run JOB, or run --workers N JOB
abbrev pub AsksFor : Seen → Option ℕ → List ℕ → Type 0
AsksFor call workers name = form call.words ≡ Some (run workers name)

abbrev pub RunsFile : Seen → List ℕ → Type 0
RunsFile call name = (workers : Option ℕ) × AsksFor call workers name

-- how many workers run a file: as many as the words say, else as many as the file says
abbrev pub workers_of : Option ℕ → JobFile → ℕ
workers_of words file = unwrap_or words file.workers

-- a job file that reads as this one, of jobs that are all run so far, and the texts that it names were loaded
pub record Ran (name : List ℕ) (old : Source) (file : JobFile) (texts : Texts) (new : Source) : Type 0 where
  pub between : Source
  pub file_loads : LoadsFile name old file between
  pub runnable : IsTrue (are_runnable file.jobs)
  pub texts_load : LoadsTexts (texts_named file) between texts new

-- what was loaded under the name of a job file came to this report and this text, which are what a run by so many workers
-- may print; the items of its jobs keep their limits
pub record IsRunOf (name : List ℕ) (workers : Option ℕ) (old : Source) (made : Report) (text : List ℕ) (new : Source) : Type 0 where
  pub file : JobFile
  pub texts : Texts
  pub ran : Ran name old file texts new
  pub fits : ¬ PassesLimit (items_of_run texts file.jobs (outcomes_of made.jobs))
  pub output : IsOutput file (workers_of workers file) texts made text

-- the words ask for a run, and this report of it and this text were formed
pub record Reports (call : Seen) (report : Option Report) (made : Report) (text : List ℕ) : Type 0 where
  pub name : List ℕ
  pub workers : Option ℕ
  pub named : AsksFor call workers name
  pub run_is : IsRunOf name workers call.texts made text call.texts_after
  pub report_is : report ≡ Some made

-- a report was made and its text written; a job of it failed exactly where the status is 1
pub record IsRun (call : Seen) (report : Option Report) : Type 0 where
  pub made : Report
  pub text : List ℕ
  pub reports : Reports call report made text
  pub writes : Takes call.out text call.out_after
  pub failed : (call.status ≡ 1) ↔ IsTrue (has_failed made)

-- a report was made, and a front of its text was written, and not the whole
pub record IsRunCut (call : Seen) (report : Option Report) : Type 0 where
  pub made : Report
  pub text : List ℕ
  pub reports : Reports call report made text
  pub taken : ℕ
  pub front : IsCut call.out text taken call.out_after

-- the job file was loaded, all of its jobs are run so far, and one of the texts that it names was not loaded
pub record IsTextRefused (fault : LoadFault) (name : List ℕ) (old new : Source) : Type 0 where
  pub file : JobFile
  pub between : Source
  pub file_loads : LoadsFile name old file between
  pub runnable : IsTrue (are_runnable file.jobs)
  pub text : List ℕ
  pub stops : StopsAt (texts_named file) between fault text new

-- a fault came under the name of the job file, or of a text that it names
abbrev pub IsReadFault : List ℕ → Source → Source → Type 0
IsReadFault name old new = FailsToLoad most_job_file old name new ⊎ IsTextRefused Read name old new

-- with the job at this place the items of the jobs so far are more than those of a run may be
pub record HasManyItems (name : List ℕ) (old new : Source) : Type 0 where
  pub file : JobFile
  pub texts : Texts
  pub between : Source
  pub file_loads : LoadsFile name old file between
  pub runnable : IsTrue (are_runnable file.jobs)
  pub texts_load : LoadsTexts (texts_named file) between texts new
  pub place : ℕ
  pub number : ℕ
  pub bytes : ℕ
  pub passes : PassesWith texts file.jobs place number bytes

-- the job file is too long, or a text by itself or with those before it, or the items are too many
abbrev pub IsTooLarge : List ℕ → Source → Source → Type 0
IsTooLarge name old new =
    IsTooLong most_job_file old name new ⊎ IsTextRefused TooLong name old new ⊎ HasManyItems name old new

-- the job file has a job that isn't run so far; no text was asked for
pub record IsNotYet (name : List ℕ) (old new : Source) : Type 0 where
  pub file : JobFile
  pub file_loads : LoadsFile name old file new
  pub unready : ¬ IsTrue (are_runnable file.jobs)

-- the source tells a job file of jobs that are run so far, and the texts that it names, all within their limits
pub record CanRun (call : Seen) : Type 0 where
  pub name : List ℕ
  pub named : RunsFile call name
  pub text : List ℕ
  pub held : call.texts.held name ≡ Some text
  pub short : length text ≤ most_job_file
  pub file : JobFile
  pub reads : Reads (lines_of text) file
  pub runnable : IsTrue (are_runnable file.jobs)
  pub texts : Texts
  pub under : map name_of texts ≡ texts_named file
  pub told : All (λ t. call.texts.held t.0 ≡ Some t.1) texts
  pub each : All (λ t. length t.1 ≤ most_text) texts
  pub few : bytes_of texts ≤ most_texts
  pub fits : Fits texts file.jobs

-- what a call of the form run, or of none, comes to
pub record RunsAsSaid (call : Seen) (report : Option Report) : Type 0 where
  pub finished : IsDone call.status → IsRun call report
  pub usage : (call.status ≡ 2) ↔ (form call.words ≡ None)
  pub bad_job : call.status ≡ 3 → (name : List ℕ) × RunsFile call name × IsBadJob name call
  pub read_fault : call.status ≡ 4 → (name : List ℕ) × RunsFile call name × IsReadFault name call.texts call.texts_after
  pub write_fault : call.status ≡ 5 → IsRunCut call report
  pub too_large : call.status ≡ 7 → (name : List ℕ) × RunsFile call name × IsTooLarge name call.texts call.texts_after
  pub not_yet : call.status ≡ 8 → (name : List ℕ) × RunsFile call name × IsNotYet name call.texts call.texts_after
  pub only : call.status ≤ 8
  pub complete : CanRun call → HasNoFaults call → IsDone call.status ⊎ (call.status ≡ 6)
  pub good : (can : CanRun call) → AreGood can.texts can.file.jobs → call.status ≢ 1
  pub no_report : (IsDone call.status → ⊥) → call.status ≢ 5 → report ≡ None
  pub outside : KeepsOutside call

abbrev pub by_form : Option Form → Seen → Option Report → Type 0
by_form (Some (check name)) call report = IsCheck call × (report ≡ None)
by_form (Some (run workers name)) call report = RunsAsSaid call report
by_form None call report = RunsAsSaid call report

-- a call of the program: check JOB is handed on, and every other is run or refused
abbrev pub IsCall : Seen → Option Report → Type 0
IsCall call report = by_form (form call.words) call report

-- ---- the steps of it

-- why a run has no report
abbrev pub RunStops : List ℕ → Source → Refusal → Source → Type 0
RunStops name old (Bad bad) new = LoadsBad name old bad new
RunStops name old ReadFault new = IsReadFault name old new
RunStops name old TooLarge new = IsTooLarge name old new
RunStops name old NotYet new = IsNotYet name old new
RunStops name old Memory new = IsCalm old new
RunStops name old _ new = ⊥

-- 1 where a job failed
abbrev pub done_status : Report → ℕ
done_status made = if has_failed made then 1 else 0

-- a report was formed and written; or none was formed, and nothing was written or called
pub record WritesRun (name : List ℕ) (workers : Option ℕ) (texts texts_after : Source) (out out_after err err_after : Intake) (status : ℕ)
    (report : Option Report) : Type 0 where
  pub made : Report
  pub report_is : report ≡ Some made
  pub text : List ℕ
  pub run_is : IsRunOf name workers texts made text texts_after
  pub writes : Writes text (done_status made) status out out_after err err_after

pub record RefusesRun (name : List ℕ) (texts texts_after : Source) (out out_after err err_after : Intake) (status : ℕ)
    (report : Option Report) : Type 0 where
  pub refusal : Refusal
  pub stops : RunStops name texts refusal texts_after
  pub refused : IsRefused refusal status err err_after
  pub untouched : out_after ≡ out
  pub no_report : report ≡ None

abbrev pub RunEnds : (name : List ℕ) (workers : Option ℕ) (texts texts_after : Source) (out out_after err err_after : Intake)
    (status : ℕ) (report : Option Report) → Type 0
RunEnds name workers texts texts_after out out_after err err_after status report =
    WritesRun name workers texts texts_after out out_after err err_after status report
    ⊎ RefusesRun name texts texts_after out out_after err err_after status report

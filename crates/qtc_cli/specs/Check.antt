-- What a call that checks a job file comes to. (Own.)
use Rattle.std.specs.Prelude.{◌≡◌, ◌≢◌, ◌⊎◌, ◌↔◌, ◌≤◌, ℕ, List, length, Some}
use Rattle.qtc_outside.specs.Source.{Source, IsCalm}
use Rattle.qtc_outside.specs.Intake.{Intake, Takes, IsCut}
use Rattle.qtc_outside.specs.Loading.{FailsToLoad, IsTooLong}
use Rattle.qtc_job_file.specs.declared.jobs.JobFile.{JobFile}
use Rattle.qtc_job_file.specs.Canonical.{canonical}
use Rattle.qtc_job.specs.Grammar.{Reads}
use Rattle.qtc_base.specs.Limits.{most_job_file}
use Rattle.qtc_job.specs.Lines.{lines_of}
use Rattle.qtc_cli.specs.Answered.{KeepsOutside, IsBadJob, HasNoFaults}
use Rattle.qtc_cli.specs.Endings.{IsRefused, Writes}
use Rattle.qtc_cli.specs.Forms.{form, check}
use Rattle.qtc_load.specs.Loads.{LoadsBad, LoadsFile}
use Rattle.qtc_cli.specs.Seen.{Seen}
use Rattle.qtc_cli.specs.declared.refusals.Refusal.{Refusal}
use Rattle.qtc_cli.specs.declared.refusals.Refusal.TheVariants.{Bad, Memory, ReadFault, TooLarge}

-- the words are check JOB
abbrev pub ChecksFile : Seen → List ℕ → Type 0
ChecksFile call name = form call.words ≡ Some (check name)

-- the job file reads as a file, whose canonical text was written
pub record IsChecked (call : Seen) : Type 0 where
  pub name : List ℕ
  pub named : ChecksFile call name
  pub file : JobFile
  pub loads : LoadsFile name call.texts file call.texts_after
  pub writes : Takes call.out (canonical file) call.out_after

-- the same, but a front of it was written, and not the whole
pub record IsCheckCut (call : Seen) : Type 0 where
  pub name : List ℕ
  pub named : ChecksFile call name
  pub file : JobFile
  pub loads : LoadsFile name call.texts file call.texts_after
  pub taken : ℕ
  pub front : IsCut call.out (canonical file) taken call.out_after

-- the source tells a job file that reads as a file
pub record CanCheck (call : Seen) : Type 0 where
  pub name : List ℕ
  pub named : ChecksFile call name
  pub text : List ℕ
  pub held : call.texts.held name ≡ Some text
  pub short : length text ≤ most_job_file
  pub file : JobFile
  pub reads : Reads (lines_of text) file

pub record IsCheck (call : Seen) : Type 0 where
  pub checked : call.status ≡ 0 → IsChecked call
  pub usage : (call.status ≡ 2) ↔ ((name : List ℕ) → ¬ ChecksFile call name)
  pub bad_job : call.status ≡ 3 → (name : List ℕ) × ChecksFile call name × IsBadJob name call
  pub read_fault : call.status ≡ 4 → (name : List ℕ) × ChecksFile call name × FailsToLoad most_job_file call.texts name call.texts_after
  pub write_fault : call.status ≡ 5 → IsCheckCut call
  pub too_large : call.status ≡ 7 → (name : List ℕ) × ChecksFile call name × IsTooLong most_job_file call.texts name call.texts_after
  pub never_failed : call.status ≢ 1
  pub never_unready : call.status ≢ 8
  pub complete : CanCheck call → HasNoFaults call → (call.status ≡ 0) ⊎ (call.status ≡ 6)
  pub outside : KeepsOutside call

-- ---- the steps of it

-- the refusal that is told where the job file under a name was not read
abbrev pub FileStops : List ℕ → Source → Refusal → Source → Type 0
FileStops name old (Bad bad) new = LoadsBad name old bad new
FileStops name old ReadFault new = FailsToLoad most_job_file old name new
FileStops name old TooLarge new = IsTooLong most_job_file old name new
FileStops name old Memory new = IsCalm old new
FileStops name old _ new = ⊥

-- the canonical text of what the job file reads as
pub record FormsCheck (name : List ℕ) (old : Source) (text : List ℕ) (new : Source) : Type 0 where
  pub file : JobFile
  pub loads : LoadsFile name old file new
  pub text_is : text ≡ canonical file

-- a text was formed and written; or none was formed, and nothing was written
pub record WritesCheck (name : List ℕ) (texts texts_after : Source) (out out_after err err_after : Intake) (status : ℕ) : Type 0 where
  pub text : List ℕ
  pub forms : FormsCheck name texts text texts_after
  pub writes : Writes text 0 status out out_after err err_after

pub record RefusesCheck (name : List ℕ) (texts texts_after : Source) (out out_after err err_after : Intake) (status : ℕ) : Type 0 where
  pub refusal : Refusal
  pub stops : FileStops name texts refusal texts_after
  pub refused : IsRefused refusal status err err_after
  pub untouched : out_after ≡ out

abbrev pub CheckEnds : (name : List ℕ) (texts texts_after : Source) (out out_after err err_after : Intake) (status : ℕ) → Type 0
CheckEnds name texts texts_after out out_after err err_after status =
    WritesCheck name texts texts_after out out_after err err_after status
    ⊎ RefusesCheck name texts texts_after out out_after err err_after status

-- What is loaded: a job file, and the texts that it names. (Own.)
use Rattle.std.specs.Prelude.{◌≡◌, ℕ, ◌-◌, ◌≤◌, not, min, List, [], ◌∷◌, ◌++◌, length, map, filter, sum_by, All, IfSome}
use Rattle.std.specs.Str.{bytes_eq}
use Rattle.qtc_outside.specs.Counts.{risen}
use Rattle.qtc_outside.specs.Source.{Source, IsCalm}
use Rattle.qtc_outside.specs.Loading.{Loads, NotLoaded, FailsToLoad, IsTooLong}
use Rattle.qtc_outside.specs.declared.loading.LoadFault.{LoadFault}
use Rattle.qtc_outside.specs.declared.loading.LoadFault.TheVariants.{Read, TooLong, Memory as NoMemory}
use Rattle.qtc_job.specs.declared.faults.BadJob.{BadJob}
use Rattle.qtc_job_file.specs.declared.jobs.JobFile.{JobFile}
use Rattle.qtc_base.specs.Limits.{most_job_file, most_text, most_texts}
use Rattle.qtc_job.specs.Lines.{lines_of}
use Rattle.qtc_job.specs.Grammar.{Reads, IsLeastBad}
use Rattle.qtc_job_file.specs.Texts.{Texts, names_of_all}
use Rattle.qtc_load.specs.declared.faults.FileFault.{FileFault}
use Rattle.qtc_load.specs.declared.faults.FileFault.TheVariants.{Bad, Read as ReadFile, TooLong as FileTooLong, Memory as FileMemory}

-- ---- the job file

-- the text under the name was loaded, and reads as this file
pub record LoadsFile (name : List ℕ) (old : Source) (file : JobFile) (new : Source) : Type 0 where
  pub text : List ℕ
  pub loads : Loads most_job_file old name text new
  pub reads : Reads (lines_of text) file

-- the text under the name was loaded, and has a bad pair, of which this is the least
pub record LoadsBad (name : List ℕ) (old : Source) (bad : BadJob) (new : Source) : Type 0 where
  pub text : List ℕ
  pub loads : Loads most_job_file old name text new
  pub refuses : IsLeastBad (lines_of text) bad.line bad.code

-- ---- the texts

-- each name once, in the order in which it comes first
abbrev pub first_named : List (List ℕ) → List (List ℕ)
first_named [] = []
first_named (name ∷ names) = name ∷ filter (λ other. not (bytes_eq name other)) (first_named names)

abbrev pub texts_named : JobFile → List (List ℕ)
texts_named file = first_named (names_of_all file.jobs)

abbrev pub name_of : List ℕ × List ℕ → List ℕ
name_of text = text.0

-- how many bytes texts have together
abbrev pub bytes_of : Texts → ℕ
bytes_of texts = sum_by (λ text. length text.1) texts

-- the texts under these names were loaded, each is what is held, where that is told, and all of them were given
pub record LoadsTexts (names : List (List ℕ)) (old : Source) (texts : Texts) (new : Source) : Type 0 where
  pub under : map name_of texts ≡ names
  pub told : All (λ text. IfSome (old.held text.0) (λ held. text.1 ≡ held)) texts
  pub short : All (λ text. length text.1 ≤ most_text) texts
  pub few : bytes_of texts ≤ most_texts
  pub taken : new.taken ≡ risen old.taken (bytes_of texts)
  pub calm : IsCalm old new

-- how long the next text may be after these
abbrev pub room_after : Texts → ℕ
room_after texts = min most_text (most_texts - bytes_of texts)

-- the texts before this name were loaded, and the one under it was not, for this fault
pub record StopsAt (names : List (List ℕ)) (old : Source) (fault : LoadFault) (name : List ℕ) (new : Source) : Type 0 where
  pub before : List (List ℕ)
  pub after : List (List ℕ)
  pub names_are : names ≡ before ++ name ∷ after
  pub texts : Texts
  pub between : Source
  pub loads : LoadsTexts before old texts between
  pub stops : NotLoaded (room_after texts) between name fault new

-- why the texts under these names were not all loaded
abbrev pub TextsStop : List (List ℕ) → Source → LoadFault → Source → Type 0
TextsStop names old Read new = (name : List ℕ) × StopsAt names old Read name new
TextsStop names old TooLong new = (name : List ℕ) × StopsAt names old TooLong name new
TextsStop names old NoMemory new = IsCalm old new

-- why the job file under a name was not read
abbrev pub FileNotRead : List ℕ → Source → FileFault → Source → Type 0
FileNotRead name old (Bad bad) new = LoadsBad name old bad new
FileNotRead name old ReadFile new = FailsToLoad most_job_file old name new
FileNotRead name old FileTooLong new = IsTooLong most_job_file old name new
FileNotRead name old FileMemory new = IsCalm old new

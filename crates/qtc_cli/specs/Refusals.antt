-- What the program ends with, and says, where it doesn't write all that it was asked for. (Own.)
use Rattle.std.specs.Prelude.{◌≡◌, ◌⊎◌, ℕ, List, [], ◌∷◌, ◌++◌, codes}
use Rattle.qtc_base.specs.Decimal.{decimal_text}
use Rattle.qtc_outside.specs.Intake.{Intake, Takes, IsCut}
use Rattle.qtc_outside.specs.declared.loading.LoadFault.{LoadFault}
use Rattle.qtc_outside.specs.declared.loading.LoadFault.TheVariants.{Read, TooLong, Memory as LoadMemory}
use Rattle.qtc_job.specs.declared.faults.BadJob.{BadJob}
use Rattle.qtc_load.specs.declared.faults.FileFault.{FileFault}
use Rattle.qtc_load.specs.declared.faults.FileFault.TheVariants.{Bad as BadFile, Read as FileRead, TooLong as FileTooLong, Memory as FileMemory}
use Rattle.qtc_run.specs.declared.reports.RunFault.{RunFault}
use Rattle.qtc_run.specs.declared.reports.RunFault.TheVariants.{TooLarge as ItemsTooLarge, Memory as RunMemory}
use Rattle.qtc_cli.specs.declared.refusals.Refusal.{Refusal}
use Rattle.qtc_cli.specs.declared.refusals.Refusal.TheVariants.{Usage, Bad, ReadFault, WriteFault, Memory, TooLarge, NotYet}

abbrev pub load_refusal : LoadFault → Refusal
load_refusal Read = ReadFault
load_refusal TooLong = TooLarge
load_refusal LoadMemory = Memory

abbrev pub file_refusal : FileFault → Refusal
file_refusal (BadFile bad) = Bad bad
file_refusal FileRead = ReadFault
file_refusal FileTooLong = TooLarge
file_refusal FileMemory = Memory

abbrev pub run_refusal : RunFault → Refusal
run_refusal (ItemsTooLarge job items bytes) = TooLarge
run_refusal RunMemory = Memory

-- ---- the status and the line of each

abbrev pub status_of : Refusal → ℕ
status_of Usage = 2
status_of (Bad bad) = 3
status_of ReadFault = 4
status_of WriteFault = 5
status_of Memory = 6
status_of TooLarge = 7
status_of NotYet = 8

-- with its LF
abbrev pub line_of : Refusal → List ℕ
line_of Usage = codes "qtc: usage: run [--workers N] JOB, check JOB, sample [--workers W] N" ++ 10 ∷ []
line_of (Bad bad) = codes "qtc: bad job file: line " ++ decimal_text bad.line ++ codes " code " ++ decimal_text bad.code ++ 10 ∷ []
line_of ReadFault = codes "qtc: read fault" ++ 10 ∷ []
line_of WriteFault = codes "qtc: write fault" ++ 10 ∷ []
line_of Memory = codes "qtc: out of memory" ++ 10 ∷ []
line_of TooLarge = codes "qtc: too large" ++ 10 ∷ []
line_of NotYet = codes "qtc: not yet" ++ 10 ∷ []

-- the sink took the line, or a front of it where a fault came
abbrev pub Hears : List ℕ → Intake → Intake → Type 0
Hears line old new = Takes old line new ⊎ ((taken : ℕ) × IsCut old line taken new)

-- what was said in the place of a refusal: itself, or want of memory for the line of a bad job file
abbrev pub SaysFor : Refusal → Refusal → Type 0
SaysFor refusal said = (said ≡ refusal) ⊎ ((said ≡ Memory) × ((bad : BadJob) × (refusal ≡ Bad bad)))

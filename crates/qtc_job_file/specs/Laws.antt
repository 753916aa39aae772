-- What a run may rely on of a lawful file, job by job. (Own.)
use Rattle.std.specs.Prelude.{ℕ, ◌≤◌, List, length, All}
use Rattle.qtc_base.specs.Limits.{most_jobs, most_sources, most_workers}
use Rattle.qtc_job_file.specs.declared.jobs.Input.{Input}
use Rattle.qtc_job_file.specs.declared.jobs.Input.TheVariants as input
use Rattle.qtc_job_file.specs.declared.jobs.Job.{Job}
use Rattle.qtc_job_file.specs.declared.jobs.JobFile.{JobFile}
use Rattle.qtc_job_file.specs.Lawful.{AreBlocks, IsWithin, Lawful}

-- a list of texts or jobs is short, and pieces have a byte
abbrev pub IsSized : Input → Type 0
IsSized (input.Files names) = length names ≤ most_sources
IsSized (input.Pieces size name) = 1 ≤ size
IsSized (input.All places) = length places ≤ most_sources
IsSized (input.Any places) = length places ≤ most_sources
IsSized _ = Unit {0}

-- its workers are 1 to 32 and its jobs few, each input is sized, and each job has blocks of lawful sizes
pub record IsBounded (file : JobFile) : Type 0 where
  pub workers : IsWithin 1 most_workers file.workers
  pub few : length file.jobs ≤ most_jobs
  pub inputs : All (λ (job : Job). IsSized job.input) file.jobs
  pub blocks : All (λ (job : Job). AreBlocks job.blocks) file.jobs

abbrev pub LawfulFilesAreBounded : Type 0
LawfulFilesAreBounded = (file : JobFile) → Lawful file → IsBounded file

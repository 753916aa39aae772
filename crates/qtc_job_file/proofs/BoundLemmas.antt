-- What a run may rely on of a lawful file.
use Rattle.std.proofs.Common.{ℕ, ◌<◌, List, [], ◌∷◌, length, get_or}
use Rattle.std.specs.Prelude.{All}
use Rattle.std.proofs.lemmas.List.Elements.{All-nil, All-from_get_or}
use Rattle.qtc_job_file.specs.declared.jobs.Input.{Input}
use Rattle.qtc_job_file.specs.declared.jobs.Input.TheVariants as input
use Rattle.qtc_job_file.specs.declared.jobs.Job.{Job}
use Rattle.qtc_job_file.specs.declared.jobs.JobFile.{JobFile}
use Rattle.qtc_job_file.specs.Laws.{IsBounded, IsSized}
use Rattle.qtc_job_file.specs.Lawful.{AreBlocks, IsInput, IsJob, Lawful}

-- what holds of the job at each place holds of each job
each-job : (P : Job → Type 0) (jobs : List Job) → ((place : ℕ) (d : Job) → place < length jobs → P (get_or jobs place d)) → All P jobs
each-job P [] each = All-nil P
each-job P (job ∷ jobs) each = All-from_get_or P (job ∷ jobs) job (λ place low. each place job low)

sized : (place : ℕ) (i : Input) → IsInput place i → IsSized i
sized place (input.Lines text) is = tt
sized place (input.Files texts) is = is.few
sized place (input.Pieces size text) is = is.0.0
sized place (input.Job p) is = tt
sized place (input.All places) is = is.few
sized place (input.Any places) is = is.few

pub lawful-bounded : (file : JobFile) → Lawful file → IsBounded file
lawful-bounded file lawful = record {
  workers = lawful.workers;
  few = lawful.few;
  inputs = each-job (λ job. IsSized job.input) file.jobs (λ place d low. sized place (get_or file.jobs place d).input (lawful.each place d low).input);
  blocks = each-job (λ job. AreBlocks job.blocks) file.jobs (λ place d low. (lawful.each place d low).blocks);
}

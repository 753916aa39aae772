-- The jobs of a round: their engines, and the desks of the pool's workers. (Own.)
use Rattle.std.specs.Prelude.{◌≡◌, ◌<◌, ◌≤◌, ℕ, Bool, true, false, List, [], ◌∷◌, ◌++◌, All, IsTrue, None, is_none, length, replicate}
use Rattle.qtc_base.specs.Limits.{most_items, most_jobs}
use Rattle.qtc_job_file.specs.declared.jobs.Job.{Job}
use Rattle.qtc_kernel.specs.EngineParts.{EngineParts, DeskState, IsDesk, work_of as engine_work}
use Rattle.qtc_kernel.specs.Driving.{AreSizes}
use Rattle.qtc_kernel.specs.OwnPasses.{plan_terms}
use Rattle.qtc_kernel.specs.WorkedOut.{IsWorkedOut}
use Rattle.qtc_kernel.specs.Workload.{Workload}
use Rattle.qtc_kernel.specs.declared.finish.Finished.{Finished}
use Rattle.qtc_kernel.specs.declared.kinds.Kind.{Kind}
use Rattle.qtc_kernel.specs.declared.kinds.Kind.TheVariants.{Mapped, Filtered, MappedReduced, FilteredReduced}
use Rattle.qtc_ops.specs.ItemValue.{ItemValue}
use Rattle.qtc_shared.specs.Journals.{flags_at}
use Rattle.qtc_shared.specs.Parts.{Terms}
use Rattle.qtc_run.specs.Reports.{IsReport, is_keep}
use Rattle.qtc_run.specs.Runnable.{is_runnable}
use Rattle.qtc_run.specs.Sources.{Texts, given, items_of, work_over}
use Rattle.qtc_run.specs.declared.reports.JobReport.{JobReport}
use Rattle.qtc_run.specs.declared.rounds.RoundJob.{RoundJob}

-- ---- jobs with their items

-- the job of a file, with its items of the texts
pub record IsSourceOf (texts : Texts) (job : Job) (source : RoundJob) : Type 0 where
  pub job_is : source.job.now ≡ job
  pub items_are : source.items ≡ items_of texts job.input

-- a job that can be run: one of those that a file may have, with few enough items
pub record IsReady (source : RoundJob) : Type 0 where
  pub place : source.place < most_jobs
  pub runnable : IsTrue (is_runnable source.job.now)
  pub blocks : AreSizes source.job.now.blocks
  pub few : length source.items ≤ most_items

abbrev pub work_in : RoundJob → Workload
work_in source = work_over source.job.now source.items

abbrev pub IsReportFor : RoundJob → JobReport → Type 0
IsReportFor source report = IsReport source.job.now (given source.items) None report

-- ---- engines

-- what an engine makes of the items: whether a job keeps some of them, and has no fold
abbrev pub kind_with : (keeps whole : Bool) → Kind
kind_with false true = Mapped
kind_with true true = Filtered
kind_with false false = MappedReduced
kind_with true false = FilteredReduced

abbrev pub kind_in : Job → Kind
kind_in job = kind_with (is_keep job.op) (is_none job.fold)

-- what the future of a job is made with
abbrev pub terms_of : ℕ → Job → Terms
terms_of workers job = plan_terms (kind_in job) job.cancel_after job.suspend_after workers

module _ {F : Type 0} (value : F → List ℕ → ItemValue) where
  -- the engine of a job: it works on the job's items by its operation and in its blocks, with so many workers
  pub record IsEngineFor (workers : ℕ) (source : RoundJob) (parts : EngineParts F) : Type 0 where
    pub work : engine_work value parts ≡ work_in source
    pub sizes : parts.sizes ≡ source.job.now.blocks
    pub count : parts.counter.workers ≡ workers
    pub kind : parts.kind ≡ kind_in source.job.now
    pub terms : parts.future.terms ≡ terms_of workers source.job.now

  -- what the engine has done, and a pass of it that knows the whole journal
  pub record HasDone (parts : EngineParts F) (done : Finished F) : Type 0 where
    pub of : done.pass.of ≡ parts.future
    pub finished : IsTrue (flags_at done.pass.known).finished
    pub worked : IsWorkedOut (engine_work value parts) parts.sizes parts.kind parts.future.terms done.pass.known
        done.calls

module _ {F : Type 0} (value : F → List ℕ → ItemValue) (called : F → List ℕ) where
  -- a desk of the engine whose worker is out
  pub record IsFree (parts : EngineParts F) (desk : DeskState F) : Type 0 where
    pub desk_is : IsDesk value called parts desk
    pub out : desk.badge.is_in ≡ false

  -- all desks of the engine, whose workers are out
  pub record AreFree (parts : EngineParts F) (desks : List (DeskState F)) : Type 0 where
    pub count : length desks ≡ parts.counter.workers
    pub each : All (IsFree parts) desks

-- each of them so many times: of all places, those at a job after those at the one before, one for each worker
abbrev pub each_times : {X : Type 0} → ℕ → List X → List X
each_times n [] = []
each_times n (x ∷ xs) = replicate n x ++ each_times n xs

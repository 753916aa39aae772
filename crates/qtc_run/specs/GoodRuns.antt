-- Runs that nothing stops. (Own.)
use Rattle.std.specs.Prelude.{◌≡◌, ℕ, List, [], All}
use Rattle.qtc_job_file.specs.declared.jobs.Job.{Job}
use Rattle.qtc_run.specs.Failing.{failing_indexes}
use Rattle.qtc_run.specs.Outputs.{AreReports}
use Rattle.qtc_run.specs.Reports.{IsUnreached}
use Rattle.qtc_run.specs.Sources.{Source, Texts, given, outcomes_of, passed, source_of}
use Rattle.qtc_run.specs.declared.reports.JobReport.{JobReport}

-- none of the items fails, and all results are fewer than cancel the job
pub record IsGood (job : Job) (items : List (List ℕ)) : Type 0 where
  pub unfailing : failing_indexes job items ≡ []
  pub unreached : IsUnreached job items

-- a job that passes an outcome on has no items
abbrev pub IsGoodOver : Job → Source → Type 0
IsGoodOver job (given items) = IsGood job items
IsGoodOver job (passed outcome) = Unit {0}

-- whatever the jobs of the file report, each of them has good items
abbrev pub AreGood : Texts → List Job → Type 0
AreGood texts jobs = (reports : List JobReport) → AreReports texts jobs reports →
    All (λ (job : Job). IsGoodOver job (source_of texts jobs (outcomes_of reports) job.input)) jobs

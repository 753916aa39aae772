-- What a run of a file may report and print. (Own.)
use Rattle.std.specs.Prelude.{◌≡◌, ◌<◌, ℕ, Bool, true, false, List, length, IsSome, slice_index_or}
use Rattle.std.specs.List.{list_any}
use Rattle.qtc_future.specs.declared.replies.Outcome.{Outcome}
use Rattle.qtc_future.specs.declared.replies.Outcome.TheVariants.{Values, Canceled}
use Rattle.qtc_job_file.specs.declared.jobs.Job.{Job}
use Rattle.qtc_job_file.specs.declared.jobs.JobFile.{JobFile}
use Rattle.qtc_pool_core.specs.Machine.{empty}
use Rattle.qtc_pool_core.specs.Runs.{run_of}
use Rattle.qtc_pool_core.specs.declared.entries.PoolEntry.{PoolEntry}
use Rattle.qtc_run.specs.Pairing.{EachPair}
use Rattle.qtc_run.specs.Reports.{IsReport}
use Rattle.qtc_run.specs.ReportTexts.{report_text}
use Rattle.qtc_run.specs.RunOrder.{round_at}
use Rattle.qtc_run.specs.Sources.{Texts, choice_of, outcomes_of, source_of}
use Rattle.qtc_run.specs.declared.reports.JobReport.{JobReport}
use Rattle.qtc_run.specs.declared.reports.Report.{Report}

-- a report of a job, over what it has of the texts and of the reports of the jobs that it names
abbrev pub IsReportIn : Texts → List Job → List JobReport → Job → JobReport → Type 0
IsReportIn texts jobs reports job report =
    IsReport job (source_of texts jobs (outcomes_of reports) job.input) (choice_of jobs job.input) report

-- as many reports as jobs, each a report of the job at its place
abbrev pub AreReports : Texts → List Job → List JobReport → Type 0
AreReports texts jobs reports = EachPair (IsReportIn texts jobs reports) jobs reports

-- the jobs of the rounds before one have such reports
pub record AreReportsBefore (round : ℕ) (texts : Texts) (jobs : List Job) (reports : List JobReport) : Type 0 where
  pub each : (place : ℕ) (d : Job) (e : JobReport) → place < length jobs → round_at jobs place < round →
      IsReportIn texts jobs reports (slice_index_or jobs place d) (slice_index_or reports place e)

-- the entries are a run of the pool's machine, from an empty pool of so many threads
abbrev pub IsPoolRun : ℕ → List PoolEntry → Type 0
IsPoolRun workers entries = IsSome (run_of (empty workers) entries)

-- what a run of a file over texts by so many workers may print
pub record IsOutput (file : JobFile) (workers : ℕ) (texts : Texts) (report : Report) (bytes : List ℕ) : Type 0 where
  pub reports : AreReports texts file.jobs report.jobs
  pub pool : IsPoolRun workers report.pool
  pub written : bytes ≡ report_text file report

-- ---- how a run ended

abbrev pub is_unfinished : Outcome (List ℕ) → Bool
is_unfinished (Values values) = false
is_unfinished _ = true

abbrev pub is_canceled_end : Outcome (List ℕ) → Bool
is_canceled_end Canceled = true
is_canceled_end _ = false

-- whether a job failed or was canceled
abbrev pub has_failed : Report → Bool
has_failed report = list_any (λ job. is_unfinished job.ended) report.jobs

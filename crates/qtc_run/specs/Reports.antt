-- What may be reported of a job, whoever worked on it. (Own.)
use Rattle.std.specs.Prelude.{◌≡◌, ◌<◌, ◌≤◌, ◌⊎◌, ℕ, Bool, true, false, ◌&&◌, is_none, List, [], All, map, filter, Option, None, if◌then◌else◌}
use Rattle.std.specs.List.{enumerate_from, list_any}
use Rattle.qtc_base.specs.Ranges.{Tiles, in_range, times_covered}
use Rattle.qtc_future.specs.Ends.{IsOutcome}
use Rattle.qtc_future.specs.Future.{Future, Logged, entries_of, events_of, reports_of, results_of}
use Rattle.qtc_future.specs.Legal.{IsLegal}
use Rattle.qtc_future.specs.declared.replies.Failure.{Failure}
use Rattle.qtc_future.specs.declared.replies.Outcome.{Outcome}
use Rattle.qtc_future.specs.declared.replies.Outcome.TheVariants.{Values, Failed, Canceled}
use Rattle.qtc_job_file.specs.declared.jobs.Job.{Job}
use Rattle.qtc_kernel.specs.Laws.{AreCalledOnce}
use Rattle.qtc_kernel.specs.Runs.{HasTexts, IsBlock, reported_ranges, times_called}
use Rattle.qtc_kernel.specs.Workload.{Workload, first_bad, size_of}
use Rattle.qtc_ops.specs.Kept.{pairs}
use Rattle.qtc_ops.specs.declared.operations.ItemOp.{ItemOp}
use Rattle.qtc_ops.specs.declared.operations.ItemOp.TheVariants.{Map, Keep}
use Rattle.qtc_store.specs.Visible.{visible}
use Rattle.qtc_run.specs.Chains.{chained}
use Rattle.qtc_run.specs.Failing.{IsFailing, failing_indexes}
use Rattle.qtc_run.specs.FoldOrders.{AreInOrder, is_unordered}
use Rattle.qtc_run.specs.Journals.{IsOpenedAndFinished, IsPassingOn, LetsGoOn, ReachesCancel}
use Rattle.qtc_run.specs.Sequential.{full_count, values_after}
use Rattle.qtc_run.specs.Sources.{Source, given, passed, work_over}
use Rattle.qtc_run.specs.declared.reports.JobReport.{JobReport}
use Rattle.qtc_run.specs.declared.reports.Placed.{Placed}

-- ---- the future of a job

abbrev pub is_keep : ItemOp → Bool
is_keep (Map op) = false
is_keep (Keep inverted pred) = true

-- the future of a job with these calls: in filter mode exactly where the job is a filter without a fold
abbrev pub future_of : Job → List (Logged (List ℕ)) → Future (List ℕ)
future_of job calls = record {
  filter = is_keep job.op && is_none job.fold;
  thresholds = record { cancel_after = job.cancel_after; suspend_after = job.suspend_after };
  calls = calls;
}

-- the reported ranges lie below n and meet nowhere, and each is one of the job's blocks; no item of them is bad, the
-- function was called on their indexes, and the values of each are what is kept of its items
pub record AreReported (job : Job) (work : Workload) (calls : List ℕ) (future : Future (List ℕ)) : Type 0 where
  pub apart : (index : ℕ) → times_covered (reported_ranges future) index ≤ 1
  pub within : (index : ℕ) → size_of work ≤ index → times_covered (reported_ranges future) index ≡ 0
  pub blocks : All (IsBlock (size_of work) job.blocks) (reported_ranges future)
  pub good : All (λ range. first_bad work range ≡ None) (reported_ranges future)
  pub called : (index : ℕ) → times_covered (reported_ranges future) index ≤ times_called calls index
  pub texts : All (HasTexts work) (reports_of future.calls)

-- ---- how a job over items ended, before its chain

-- fewer results than cancel the job are all that there are
abbrev pub IsUnreached : Job → List (List ℕ) → Type 0
IsUnreached job items = (job.cancel_after ≡ 0) ⊎ (full_count job items < job.cancel_after)

-- with values, those of the sequential answer, or of its blocks in the order that is told: no item fails, no threshold
-- was to be reached, each index was called once, nothing canceled the job, and without a fold the reported ranges tile
-- the items
pub record HasValues (job : Job) (items : List (List ℕ)) (report : JobReport) (future : Future (List ℕ))
    (values : List (List ℕ)) : Type 0 where
  pub good : failing_indexes job items ≡ []
  pub unreached : IsUnreached job items
  pub texts : List (List ℕ)
  pub in_order : AreInOrder (is_unordered job) (work_over job items) job.blocks report.order texts
  pub values_are : values ≡ values_after job.fold texts
  pub called : (index : ℕ) → index < size_of (work_over job items) → times_called report.calls index ≡ 1
  pub tiled : job.fold ≡ None → Tiles (reported_ranges future) (size_of (work_over job items))
  pub going : All LetsGoOn report.journal

-- with an item that fails, which was called
pub record HasFailure (job : Job) (items : List (List ℕ)) (report : JobReport) (failure : Failure) : Type 0 where
  pub failing : IsFailing job items failure
  pub called : times_called report.calls failure.index ≡ 1
  pub order : report.order ≡ None

-- canceled, as so many results were accounted for
pub record IsCanceled (job : Job) (items : List (List ℕ)) (report : JobReport) : Type 0 where
  pub some : 1 ≤ job.cancel_after
  pub few : job.cancel_after ≤ full_count job items
  pub reached : ReachesCancel job.cancel_after report.journal
  pub order : report.order ≡ None

abbrev pub EndsWith : Job → List (List ℕ) → JobReport → Future (List ℕ) → Outcome (List ℕ) → Type 0
EndsWith job items report future (Values values) = HasValues job items report future values
EndsWith job items report future (Failed failure) = HasFailure job items report failure
EndsWith job items report future Canceled = IsCanceled job items report

-- ---- how a job came to its outcome

-- its items were worked on
pub record IsWorkedOn (job : Job) (items : List (List ℕ)) (report : JobReport) (future : Future (List ℕ))
    (outcome : Outcome (List ℕ)) : Type 0 where
  pub opened : IsOpenedAndFinished report.journal
  pub called : AreCalledOnce (work_over job items) report.calls
  pub reported : job.fold ≡ None → AreReported job (work_over job items) report.calls future
  pub ended : EndsWith job items report future outcome

-- it has none, and passes an outcome on
pub record IsPassedOn (earlier : Outcome (List ℕ)) (report : JobReport) (outcome : Outcome (List ℕ)) : Type 0 where
  pub same : outcome ≡ earlier
  pub uncalled : report.calls ≡ []
  pub told : IsPassingOn earlier report.journal
  pub order : report.order ≡ None

abbrev pub ComesTo : Job → Source → JobReport → Future (List ℕ) → Outcome (List ℕ) → Type 0
ComesTo job (given items) report future outcome = IsWorkedOn job items report future outcome
ComesTo job (passed earlier) report future outcome = IsPassedOn earlier report outcome

-- ---- what is shown of a canceled job

-- in a map what is kept of the items of the reported ranges, by ascending index; in a filter the visible results, by
-- their positions
abbrev pub accepted : (filter : Bool) → Workload → Future (List ℕ) → List (ℕ × List ℕ)
accepted false work future =
    filter (λ pair. list_any (in_range pair.0) (reported_ranges future)) (pairs work.value work.items)
accepted true work future = enumerate_from 0 (visible (results_of future).batches)

-- nothing, but where the job has items and no fold and ended canceled
abbrev pub shown_partly : Job → Source → Future (List ℕ) → Outcome (List ℕ) → List (ℕ × List ℕ)
shown_partly job (given items) future Canceled =
    if is_none job.fold then accepted (is_keep job.op) (work_over job items) future else []
shown_partly job source future outcome = []

abbrev pub pair_of : Placed → ℕ × List ℕ
pair_of placed = (placed.index, placed.value)

-- ---- reports

-- what a job with this source may report; the choice is that of an `input any`. The journal is that of a list of
-- effective calls on a new future; the chain goes on from what that future comes to; and outcome, calls, journal and
-- events fit each other
pub record IsReport (job : Job) (source : Source) (choice : Option ℕ) (report : JobReport) : Type 0 where
  pub logged : List (Logged (List ℕ))
  pub legal : IsLegal (future_of job logged)
  pub journal : report.journal ≡ entries_of logged
  pub outcome : Outcome (List ℕ)
  pub outcome_is : IsOutcome (future_of job logged) outcome
  pub comes : ComesTo job source report (future_of job logged) outcome
  pub ended : report.ended ≡ chained outcome job.chain
  pub partial : map pair_of report.partial ≡ shown_partly job source (future_of job logged) report.ended
  pub any : report.any ≡ choice
  pub events : report.events ≡ (if job.watch then events_of (future_of job logged) else [])

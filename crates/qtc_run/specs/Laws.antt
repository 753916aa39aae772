-- The laws of sources, sequential answers and reports. (Own.)
use Rattle.std.specs.Prelude.{◌≡◌, ℕ, ◌+◌, ◌-◌, ◌<◌, ◌≤◌, ◌==◌, ◌&&◌, Bool, true, false, nat_lt, if◌then◌else◌, List, [], ◌∷◌, ◌++◌, All, IsTrue, Option, None, length, slice_index_or, take}
use Rattle.std.specs.List.{concat, count_by, range_with_len}
use Rattle.qtc_base.specs.Items.{PassesLimit, total_bytes}
use Rattle.qtc_base.specs.Lines.{lines}
use Rattle.qtc_ops.specs.ItemValue.{bad}
use Rattle.qtc_ops.specs.Operations.{value_of}
use Rattle.qtc_future.specs.declared.replies.Failure.{Failure}
use Rattle.qtc_future.specs.declared.replies.Outcome.{Outcome}
use Rattle.qtc_future.specs.declared.replies.Outcome.TheVariants.{Values, Failed, Canceled}
use Rattle.qtc_future.specs.Ends.{IsOutcome}
use Rattle.qtc_future.specs.Future.{Future, Logged, events_of, journal_of}
use Rattle.qtc_kernel.specs.Driving.{called_by}
use Rattle.qtc_kernel.specs.Runs.{times_called}
use Rattle.qtc_kernel.specs.WorkedOut.{IsWorkedOut}
use Rattle.qtc_kernel.specs.Workload.{Workload, bad_indexes, item_at, kept_texts, size_of, worked_on}
use Rattle.qtc_shared.specs.Parts.{future_at}
use Rattle.qtc_job_file.specs.Lawful.{Lawful}
use Rattle.qtc_job_file.specs.declared.jobs.Job.{Job}
use Rattle.qtc_job_file.specs.declared.jobs.JobFile.{JobFile}
use Rattle.qtc_run.specs.Chains.{chained}
use Rattle.qtc_run.specs.Failing.{IsFailing, failing_indexes, fails_in}
use Rattle.qtc_run.specs.FoldOrders.{AreBlockByBlock, is_unordered}
use Rattle.qtc_run.specs.GoodRuns.{AreGood, IsGood}
use Rattle.qtc_run.specs.Outputs.{AreReports, IsReportIn, is_canceled_end, is_unfinished}
use Rattle.qtc_run.specs.Reports.{IsReport}
use Rattle.qtc_run.specs.ReportTexts.{job_text, report_text}
use Rattle.qtc_run.specs.Rounds.{kind_in, terms_of}
use Rattle.qtc_run.specs.Runnable.{are_runnable, is_runnable}
use Rattle.qtc_run.specs.RunOrder.{run_order}
use Rattle.qtc_run.specs.Sequential.{full_count, sequential, values_after}
use Rattle.qtc_run.specs.Sources.{Texts, given, items_of, items_of_all, outcomes_of, pieces_of, source_of, work_over}
use Rattle.qtc_run.specs.Sums.{Fits, items_of_first, items_of_run}
use Rattle.qtc_run.specs.declared.reports.JobReport.{JobReport}
use Rattle.qtc_run.specs.declared.reports.Report.{Report}

-- ---- sources

-- each piece but the last has `size` bytes, the last 1 to `size`, and one after the other they are the text
pub record ArePieces (size : ℕ) (text : List ℕ) (pieces : List (List ℕ)) : Type 0 where
  pub full : (place : ℕ) (d : List ℕ) → place + 1 < length pieces → length (slice_index_or pieces place d) ≡ size
  pub some : (place : ℕ) (d : List ℕ) → place + 1 ≡ length pieces → 1 ≤ length (slice_index_or pieces place d)
  pub most : (place : ℕ) (d : List ℕ) → place + 1 ≡ length pieces → length (slice_index_or pieces place d) ≤ size
  pub whole : concat pieces ≡ text

abbrev pub PiecesAreTheText : Type 0
PiecesAreTheText = (size : ℕ) (text : List ℕ) → 1 ≤ size → ArePieces size text (pieces_of size text)

-- 1 where a last line has no LF
abbrev pub tail_count : List ℕ → ℕ
tail_count text = if slice_index_or text (length text - 1) 10 == 10 then 0 else 1

-- a line for each LF, and one for what is after the last; every other byte stands in a line
pub record LinesAreCounted (text : List ℕ) : Type 0 where
  pub number : length (lines text) ≡ count_by (λ byte. byte == 10) text + tail_count text
  pub bytes : total_bytes (lines text) + count_by (λ byte. byte == 10) text ≡ length text

abbrev pub LinesCountFeeds : Type 0
LinesCountFeeds = (text : List ℕ) → LinesAreCounted text

-- ---- the sequential answer

-- no item fails, or this one does and none before it
abbrev pub EndsAs : Job → List (List ℕ) → Outcome (List ℕ) → Type 0
EndsAs job items (Values values) =
    (values ≡ values_after job.fold (kept_texts (work_over job items))) × All (λ item. fails_in job item ≡ false) items
EndsAs job items (Failed failure) =
    IsFailing job items failure
    × ((earlier : ℕ) → earlier < failure.index → fails_in job (item_at (work_over job items) earlier) ≡ false)
EndsAs job items Canceled = ⊥

abbrev pub JobsFailAtTheFirst : Type 0
JobsFailAtTheFirst = (job : Job) (items : List (List ℕ)) → EndsAs job items (sequential job items)

-- an item that fails is one of the items, and its value is bad, or a kept text that is bad for the fold
pub record Fails (job : Job) (items : List (List ℕ)) (failure : Failure) : Type 0 where
  pub within : failure.index < length items
  pub item_is : failure.item ≡ item_at (work_over job items) failure.index
  pub failing : fails_in job failure.item ≡ true
  -- without a fold its value is bad
  pub bad_value : job.fold ≡ None → value_of job.op failure.item ≡ bad

abbrev pub FailuresAreOfItemsThatFail : Type 0
FailuresAreOfItemsThatFail = (job : Job) (items : List (List ℕ)) (failure : Failure) →
    IsFailing job items failure → Fails job items failure

-- the number lies behind the begin of the block
abbrev pub is_inside : ℕ → ℕ × ℕ → Bool
is_inside number block = nat_lt block.0 number && nat_lt number block.1

-- each number below n is one begin, or lies behind the begin of one block, and no other number is a begin: so the begins,
-- sorted, start with 0 and strictly ascend; and as many blocks end at a number below n as begin there
pub record GoFromBeginToBegin (n : ℕ) (begins : List ℕ) (blocks : List (ℕ × ℕ)) : Type 0 where
  pub each : (number : ℕ) → number < n → times_called begins number + count_by (is_inside number) blocks ≡ 1
  pub first : 1 ≤ n → times_called begins 0 ≡ 1
  pub below : (number : ℕ) → n ≤ number → times_called begins number ≡ 0
  pub ends : (number : ℕ) → 1 ≤ number → number < n →
      count_by (λ block. block.1 == number) blocks ≡ times_called begins number

abbrev pub BlocksGoFromBeginToBegin : Type 0
BlocksGoFromBeginToBegin =
    (work : Workload) (sizes begins : List ℕ) (texts : List (List ℕ)) → (is : AreBlockByBlock work sizes begins texts) →
    GoFromBeginToBegin (size_of work) begins is.blocks

-- each index below the number of items worked on once, and no other
abbrev pub CallsAreOnce : Type 0
CallsAreOnce = (work : Workload) (index : ℕ) →
    times_called (called_by work) index ≡ (if nat_lt index (worked_on work (bad_indexes work)) then 1 else 0)

-- ---- the report

abbrev pub file_with : ℕ → List Job → JobFile
file_with workers jobs = record { workers = workers; jobs = jobs }

abbrev pub report_with : List JobReport → Report
report_with jobs = record { jobs = jobs; pool = [] }

-- a job more appends its text
abbrev pub ReportsGoJobByJob : Type 0
ReportsGoJobByJob = (workers : ℕ) (jobs : List Job) (reports : List JobReport) (job : Job) (done : JobReport) →
    length jobs ≡ length reports →
    report_text (file_with workers (jobs ++ job ∷ [])) (report_with (reports ++ done ∷ []))
    ≡ report_text (file_with workers jobs) (report_with reports) ++ job_text job.name done

-- as many reports as jobs, each of the job at its place
pub record ReportsStandByPlace (texts : Texts) (jobs : List Job) (reports : List JobReport) : Type 0 where
  pub number : length reports ≡ length jobs
  pub each : (place : ℕ) (d : Job) (e : JobReport) → place < length jobs →
      IsReportIn texts jobs reports (slice_index_or jobs place d) (slice_index_or reports place e)

abbrev pub JobsAreReportedInOrder : Type 0
JobsAreReportedInOrder = (texts : Texts) (jobs : List Job) (reports : List JobReport) →
    AreReports texts jobs reports → ReportsStandByPlace texts jobs reports

-- a report that is made of what a future tells in the end
pub record IsMadeOf (job : Job) (report : JobReport) (future : Future (List ℕ)) : Type 0 where
  pub ended : IsOutcome future report.ended
  pub journal : report.journal ≡ journal_of future
  pub events : report.events ≡ (if job.watch then events_of future else [])
  pub partial : report.partial ≡ []
  pub order : report.order ≡ None
  pub any : report.any ≡ None

-- what the workers of an engine make of a job that is run so far may be reported, where it was not canceled
abbrev pub WorkedJobsAreReported : Type 0
WorkedJobsAreReported =
    (job : Job) (items : List (List ℕ)) (report : JobReport) (workers : ℕ) (journal : List (Logged (List ℕ))) →
    IsTrue (is_runnable job) →
    IsWorkedOut (work_over job items) job.blocks (kind_in job) (terms_of workers job) journal report.calls →
    IsMadeOf job report (future_at (terms_of workers job) journal) → is_canceled_end report.ended ≡ false →
    IsReport job (given items) None report

-- ---- what a report comes to

-- a job that nothing stops ends with values, and where no order is told, with those that the chain makes of the
-- sequential answer, whoever worked on it
pub record Finishes (job : Job) (items : List (List ℕ)) (report : JobReport) : Type 0 where
  pub finished : is_unfinished report.ended ≡ false
  pub sequentially : is_unordered job ≡ false → report.ended ≡ chained (sequential job items) job.chain

abbrev pub GoodJobsFinish : Type 0
GoodJobsFinish = (job : Job) (items : List (List ℕ)) (choice : Option ℕ) (report : JobReport) →
    IsReport job (given items) choice report → IsGood job items → Finishes job items report

-- the sequential answer to what a job came to: just these values, or a failure, perhaps of another item
abbrev pub IsFailure : Outcome (List ℕ) → Type 0
IsFailure (Failed failure) = Unit {0}
IsFailure _ = ⊥

abbrev pub AnswersAs : Job → List (List ℕ) → Outcome (List ℕ) → Type 0
AnswersAs job items (Values values) = is_unordered job ≡ false → sequential job items ≡ Values values
AnswersAs job items (Failed failure) = IsFailure (sequential job items)
AnswersAs job items Canceled = (1 ≤ job.cancel_after) × (job.cancel_after ≤ full_count job items)

abbrev pub ReportsAreSequential : Type 0
ReportsAreSequential = (job : Job) (items : List (List ℕ)) (choice : Option ℕ) (report : JobReport) →
    (is : IsReport job (given items) choice report) →
    (report.ended ≡ chained is.outcome job.chain) × AnswersAs job items is.outcome

-- ---- jobs that are run so far

-- the values of the sequential answer, or one of the items that fail
abbrev pub EndsPlainly : Job → List (List ℕ) → Outcome (List ℕ) → Type 0
EndsPlainly job items (Values values) = (values ≡ kept_texts (work_over job items)) × (failing_indexes job items ≡ [])
EndsPlainly job items (Failed failure) = Fails job items failure
EndsPlainly job items Canceled = ⊥

-- it has the items of its texts, its report ends as its items were worked on, and nothing else is told
pub record IsPlainReport (texts : Texts) (jobs : List Job) (reports : List JobReport) (job : Job) (report : JobReport) : Type 0 where
  pub source : source_of texts jobs (outcomes_of reports) job.input ≡ given (items_of texts job.input)
  pub ended : EndsPlainly job (items_of texts job.input) report.ended
  pub partial : length report.partial ≡ 0
  pub order : report.order ≡ None
  pub any : report.any ≡ None

abbrev pub RunnableJobsArePlain : Type 0
RunnableJobsArePlain =
    (texts : Texts) (jobs : List Job) (reports : List JobReport) (job : Job) (report : JobReport) →
    IsTrue (is_runnable job) → IsReportIn texts jobs reports job report → IsPlainReport texts jobs reports job report

-- the jobs are run in the order of the file, and their items are those of the texts
pub record IsOverTexts (texts : Texts) (jobs : List Job) : Type 0 where
  pub order : run_order jobs ≡ range_with_len 0 (length jobs)
  pub items : (outcomes : List (Outcome (List ℕ))) (count : ℕ) → count ≤ length jobs →
      items_of_first count texts jobs outcomes ≡ items_of_all texts (take count jobs)
  pub whole : (outcomes : List (Outcome (List ℕ))) → items_of_run texts jobs outcomes ≡ items_of_all texts jobs
  -- where the items of all texts pass no limit, those of a run don't
  pub fits : ¬ PassesLimit (items_of_all texts jobs) → Fits texts jobs
  -- where none of their items is bad, nothing stops a run
  pub good : All (λ (job : Job). bad_indexes (work_over job (items_of texts job.input)) ≡ []) jobs → AreGood texts jobs

abbrev pub RunnableRunsAreOverTexts : Type 0
RunnableRunsAreOverTexts = (texts : Texts) (jobs : List Job) → IsTrue (are_runnable jobs) → IsOverTexts texts jobs

-- no job of a run that nothing stops fails or is canceled
abbrev pub GoodRunsFinish : Type 0
GoodRunsFinish = (file : JobFile) (texts : Texts) (reports : List JobReport) → Lawful file →
    AreReports texts file.jobs reports → AreGood texts file.jobs →
    All (λ (report : JobReport). is_unfinished report.ended ≡ false) reports

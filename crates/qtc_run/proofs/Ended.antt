-- What a report comes to.
use Rattle.std.proofs.Common.{◌≡◌, ℕ, ◌<◌, ◌≤◌, ◌⊎◌, ⊎_elim, Bool, true, false, List, [], ◌∷◌, length, Option, None, refl, ap, sym, subst, ◌∙◌, arith}
use Rattle.std.specs.Prelude.{Contains}
use Rattle.std.proofs.lemmas.Bool.{true≢false}
use Rattle.std.proofs.lemmas.List.{length-map}
use Rattle.qtc_future.specs.Future.{Future}
use Rattle.qtc_future.specs.declared.replies.Outcome.{Outcome}
use Rattle.qtc_future.specs.declared.replies.Outcome.TheVariants.{Values, Failed, Canceled}
use Rattle.qtc_job_file.specs.declared.jobs.ChainOp.{ChainOp}
use Rattle.qtc_job_file.specs.declared.jobs.ChainOp.TheVariants.{Then, OnFailed, OnCanceled}
use Rattle.qtc_job_file.specs.declared.jobs.Job.{Job}
use Rattle.qtc_kernel.specs.Workload.{Workload, kept_texts}
use Rattle.qtc_run.specs.Chains.{after_step, chained}
use Rattle.qtc_run.specs.Failing.{failing_indexes}
use Rattle.qtc_run.specs.FoldOrders.{AreInOrder, is_unordered}
use Rattle.qtc_run.specs.GoodRuns.{IsGood}
use Rattle.qtc_run.specs.Laws.{AnswersAs, EndsPlainly, GoodJobsFinish, IsFailure, IsPlainReport, ReportsAreSequential, RunnableJobsArePlain}
use Rattle.qtc_run.specs.Outputs.{is_unfinished}
use Rattle.qtc_run.specs.Reports.{EndsWith, HasValues, future_of, IsReport, pair_of, shown_partly}
use Rattle.qtc_run.specs.Sequential.{ended_with, full_count, sequential, values_after}
use Rattle.qtc_run.specs.Sources.{Source, Texts, choice_of, given, items_of, outcomes_of, work_over}
use Rattle.qtc_run.specs.declared.reports.JobReport.{JobReport}
use Rattle.qtc_run.proofs.Plain.{IsPlain, are-failing, no-choice, ordered-alone, runnable-plain, source-given, texts-alone}

-- ---- the chain

-- values stay values
step-values : (values : List (List ℕ)) (step : ChainOp) (steps : List ChainOp) → ((values : List (List ℕ)) → is_unfinished (chained (Values values) steps) ≡ false) → is_unfinished (chained (after_step (Values values) step) steps) ≡ false
step-values values (Then op) steps later = later _
step-values values (OnFailed text) steps later = later values
step-values values (OnCanceled text) steps later = later values

pub values-stay : (steps : List ChainOp) (values : List (List ℕ)) → is_unfinished (chained (Values values) steps) ≡ false
values-stay [] values = refl
values-stay (step ∷ steps) values = step-values values step steps (values-stay steps)

-- ---- the texts of a job whose order is not told

told-order : (unordered : Bool) (work : Workload) (sizes : List ℕ) (order : Option (List ℕ)) (texts : List (List ℕ)) → unordered ≡ false → AreInOrder unordered work sizes order texts → (order ≡ None) × (texts ≡ kept_texts work)
told-order false work sizes order texts is are = are
told-order true work sizes order texts is are = absurd (true≢false is)

-- ---- the sequential answer

values-sequential : (job : Job) (items : List (List ℕ)) (report : JobReport) (future : Future (List ℕ)) (values : List (List ℕ)) → HasValues job items report future values → is_unordered job ≡ false → sequential job items ≡ Values values
values-sequential job items report future values is plain =
    let texts = (told-order (is_unordered job) (work_over job items) job.blocks report.order is.texts plain is.in_order).1 in
    ap (ended_with job items) is.good ∙ ap Values (sym (is.values_are ∙ ap (values_after job.fold) texts))

fails-too : (job : Job) (items : List (List ℕ)) (indexes : List ℕ) (index : ℕ) → Contains indexes index → IsFailure (ended_with job items indexes)
fails-too job items [] index among = absurd (omega (arith, among.1))
fails-too job items (first ∷ others) index among = tt

answers-as : (job : Job) (items : List (List ℕ)) (report : JobReport) (future : Future (List ℕ)) (outcome : Outcome (List ℕ)) → EndsWith job items report future outcome → AnswersAs job items outcome
answers-as job items report future (Values values) is = values-sequential job items report future values is
answers-as job items report future (Failed failure) is = fails-too job items (failing_indexes job items) failure.index is.failing.among
answers-as job items report future Canceled is = (is.some, is.few)

pub are-sequential : ReportsAreSequential
are-sequential job items choice report is = (is.ended, answers-as job items report (future_of job is.logged) is.outcome is.comes.ended)

-- ---- a job that nothing stops

none-fails : (indexes : List ℕ) (index : ℕ) → indexes ≡ [] → Contains indexes index → ⊥
none-fails [] index is among = omega (arith, among.1)
none-fails (first ∷ others) index is among = let e : first ∷ others ≡ [] = is in cc

not-reached : (after full : ℕ) → (after ≡ 0) ⊎ (full < after) → 1 ≤ after → after ≤ full → ⊥
not-reached after full unreached some few = ⊎_elim (λ (none : after ≡ 0). omega arith) (λ (more : full < after). omega arith) unreached

good-ends : (job : Job) (items : List (List ℕ)) (report : JobReport) (future : Future (List ℕ)) (outcome : Outcome (List ℕ)) → IsGood job items → EndsWith job items report future outcome → (is_unfinished (chained outcome job.chain) ≡ false) × (is_unordered job ≡ false → outcome ≡ sequential job items)
good-ends job items report future (Values values) good is =
    (values-stay job.chain values, λ plain. sym (values-sequential job items report future values is plain))
good-ends job items report future (Failed failure) good is = absurd (none-fails (failing_indexes job items) failure.index good.unfailing is.failing.among)
good-ends job items report future Canceled good is = absurd (not-reached job.cancel_after (full_count job items) good.unreached is.some is.few)

pub good-finish : GoodJobsFinish
good-finish job items choice report is good =
    let parts = good-ends job items report (future_of job is.logged) is.outcome good is.comes.ended in
    record {
      finished = ap is_unfinished is.ended ∙ parts.0;
      sequentially = λ plain. is.ended ∙ ap (λ (outcome : Outcome (List ℕ)). chained outcome job.chain) (parts.1 plain);
    }

-- ---- a job that is run so far

ends-plainly : (job : Job) (items : List (List ℕ)) (report : JobReport) (future : Future (List ℕ)) (outcome : Outcome (List ℕ)) → IsPlain job → EndsWith job items report future outcome → EndsPlainly job items outcome × (report.order ≡ None)
ends-plainly job items report future (Values values) plain is =
    let told = told-order (is_unordered job) (work_over job items) job.blocks report.order is.texts (ordered-alone job plain.fold) is.in_order in
    ((is.values_are ∙ (texts-alone job is.texts plain.fold ∙ told.1), is.good), told.0)
ends-plainly job items report future (Failed failure) plain is = (are-failing job items failure is.failing, is.order)
ends-plainly job items report future Canceled plain is = absurd (let none = plain.cancel_after in let some = is.some in omega arith)

unshown : (job : Job) (items : List (List ℕ)) (future : Future (List ℕ)) (outcome : Outcome (List ℕ)) → EndsPlainly job items outcome → shown_partly job (given items) future outcome ≡ []
unshown job items future (Values values) is = refl
unshown job items future (Failed failure) is = refl
unshown job items future Canceled is = absurd is

plain-report : (texts : Texts) (jobs : List Job) (reports : List JobReport) (job : Job) (report : JobReport) → IsPlain job → IsReport job (given (items_of texts job.input)) (choice_of jobs job.input) report → IsPlainReport texts jobs reports job report
plain-report texts jobs reports job report plain is =
    let items = items_of texts job.input in
    let parts = ends-plainly job items report (future_of job is.logged) is.outcome plain is.comes.ended in
    let same : is.outcome ≡ report.ended = sym (is.ended ∙ ap (chained is.outcome) plain.chain) in
    let ended = subst (EndsPlainly job items) same parts.0 in
    record {
      source = source-given texts jobs (outcomes_of reports) job.input plain.reads;
      ended = ended;
      partial = sym (length-map report.partial pair_of) ∙ ap length (is.partial ∙ unshown job items (future_of job is.logged) report.ended ended);
      order = parts.1;
      any = is.any ∙ no-choice jobs job.input plain.reads;
    }

pub runnable-reports : RunnableJobsArePlain
runnable-reports texts jobs reports job report ready is =
    let plain = runnable-plain job ready in
    plain-report texts jobs reports job report plain
    (subst (λ (source : Source). IsReport job source (choice_of jobs job.input) report) (source-given texts jobs (outcomes_of reports) job.input plain.reads) is)

-- No job of a run that nothing stops fails or is canceled, place by place.
use Rattle.std.proofs.Common.{◌≡◌, ℕ, zero, suc, ◌<◌, ◌≤◌, true, false, eqb, List, [], ◌∷◌, ◌++◌, length, get_or, Option, refl, ap, sym, subst, ◌∙◌, ⊎_elim, arith}
use Rattle.std.specs.Prelude.{All, find, map, unwrap_or}
use Rattle.std.proofs.lemmas.Bool.{cases_Bool, cases_lt, true≢false}
use Rattle.std.proofs.lemmas.Bool.Decides.{nat_tests}
use Rattle.std.proofs.lemmas.List.{get_or-map}
use Rattle.std.proofs.lemmas.List.Elements.{All-nil, All-cons, All-from_get_or, All-head, All-tail}
use Rattle.qtc_future.specs.declared.replies.Outcome.{Outcome}
use Rattle.qtc_future.specs.declared.replies.Outcome.TheVariants.{Values, Failed, Canceled}
use Rattle.qtc_job_file.specs.Lawful.{IsInput, Lawful}
use Rattle.qtc_job_file.specs.declared.jobs.Input.{Input}
use Rattle.qtc_job_file.specs.declared.jobs.Input.TheVariants as input
use Rattle.qtc_job_file.specs.declared.jobs.Job.{Job}
use Rattle.qtc_job_file.specs.declared.jobs.JobFile.{JobFile}
use Rattle.qtc_run.specs.GoodRuns.{AreGood, IsGoodOver}
use Rattle.qtc_run.specs.Laws.{GoodRunsFinish}
use Rattle.qtc_run.specs.Outputs.{AreReports, IsReportIn, is_unfinished}
use Rattle.qtc_run.specs.Reports.{IsReport}
use Rattle.qtc_run.specs.RunOrder.{is_among, run_order}
use Rattle.qtc_run.specs.Sources.{Source, Texts, choice_of, given, items_of, outcome_at, outcomes_of, source_from, source_from_all, source_of, values_before}
use Rattle.qtc_run.specs.declared.reports.JobReport.{JobReport}
use Rattle.qtc_run.proofs.Ended.{good-finish}
use Rattle.qtc_run.proofs.ReportLemmas.{pairs-at, pairs-number}

-- ---- the sources of finished jobs are items

finished-given : (outcome : Outcome (List ℕ)) → is_unfinished outcome ≡ false → (items : List (List ℕ)) × (source_from outcome ≡ given items)
finished-given (Values values) is = (values, refl)
finished-given (Failed failure) is = absurd (true≢false is)
finished-given Canceled is = absurd (true≢false is)

all-given : (outcomes : List (Outcome (List ℕ))) → All (λ (outcome : Outcome (List ℕ)). is_unfinished outcome ≡ false) outcomes → (items : List (List ℕ)) × (source_from_all outcomes ≡ given items)
all-given [] all = ([], refl)
all-given (Values values ∷ outcomes) all =
    let rest = all-given outcomes (All-tail (λ (outcome : Outcome (List ℕ)). is_unfinished outcome ≡ false) (Values values) outcomes all) in
    (values ++ rest.0, ap (values_before values) rest.1)
all-given (Failed failure ∷ outcomes) all = absurd (true≢false (All-head (λ (outcome : Outcome (List ℕ)). is_unfinished outcome ≡ false) (Failed failure) outcomes all))
all-given (Canceled ∷ outcomes) all = absurd (true≢false (All-head (λ (outcome : Outcome (List ℕ)). is_unfinished outcome ≡ false) Canceled outcomes all))

-- ---- the job that finishes first is one of those that are named

same-number : (a b : ℕ) → eqb a b ≡ true → a ≡ b
same-number a b is = grind (arith, nat_tests)

among-below : (places : List ℕ) (place bound : ℕ) → is_among places place ≡ true → All (λ p. p < bound) places → place < bound
among-below [] place bound is each = absurd (true≢false (sym is))
among-below (first ∷ places) place bound is each =
    ⊎_elim
    (λ (same : eqb first place ≡ true).
    let here = All-head (λ p. p < bound) first places each in
    let equal = same-number first place same in
    omega (arith, here, equal))
    (λ (other : eqb first place ≡ false). among-below places place bound (rw other at is) (All-tail (λ p. p < bound) first places each))
    (cases_Bool (eqb first place))

none-below : (places : List ℕ) (bound : ℕ) → 1 ≤ length places → All (λ p. p < bound) places → 0 < bound
none-below [] bound some each = absurd (omega arith)
none-below (first ∷ places) bound some each = let here = All-head (λ p. p < bound) first places each in omega (arith, here)

found-below : (places order : List ℕ) (bound : ℕ) → 1 ≤ length places → All (λ p. p < bound) places → unwrap_or (find (is_among places) order) 0 < bound
found-below places [] bound some each = none-below places bound some each
found-below places (place ∷ order) bound some each =
    ⊎_elim
    (λ (is : is_among places place ≡ true). rw is (among-below places place bound is each))
    (λ (away : is_among places place ≡ false). rw away (found-below places order bound some each))
    (cases_Bool (is_among places place))

-- ---- place by place

abbrev Finished : List (Outcome (List ℕ)) → ℕ → Type 0
Finished outcomes place = is_unfinished (outcome_at outcomes place) ≡ false

named-finished : (outcomes : List (Outcome (List ℕ))) (places : List ℕ) (bound : ℕ) → All (λ p. p < bound) places → ((place : ℕ) → place < bound → Finished outcomes place) → All (λ (outcome : Outcome (List ℕ)). is_unfinished outcome ≡ false) (map (outcome_at outcomes) places)
named-finished outcomes [] bound each before = All-nil (λ (outcome : Outcome (List ℕ)). is_unfinished outcome ≡ false)
named-finished outcomes (place ∷ places) bound each before =
    All-cons (λ (outcome : Outcome (List ℕ)). is_unfinished outcome ≡ false) (outcome_at outcomes place) (map (outcome_at outcomes) places)
    (before place (All-head (λ p. p < bound) place places each))
    (named-finished outcomes places bound (All-tail (λ p. p < bound) place places each) before)

input-given : (texts : Texts) (jobs : List Job) (outcomes : List (Outcome (List ℕ))) (bound : ℕ) (read : Input) → IsInput bound read → ((place : ℕ) → place < bound → Finished outcomes place) → (items : List (List ℕ)) × (source_of texts jobs outcomes read ≡ given items)
input-given texts jobs outcomes bound (input.Lines name) is before = (items_of texts (input.Lines name), refl)
input-given texts jobs outcomes bound (input.Files names) is before = (items_of texts (input.Files names), refl)
input-given texts jobs outcomes bound (input.Pieces size name) is before = (items_of texts (input.Pieces size name), refl)
input-given texts jobs outcomes bound (input.Job place) is before = finished-given (outcome_at outcomes place) (before place is)
input-given texts jobs outcomes bound (input.All places) is before = all-given (map (outcome_at outcomes) places) (named-finished outcomes places bound is.each before)
input-given texts jobs outcomes bound (input.Any places) is before =
    let first : ℕ = unwrap_or (find (is_among places) (run_order jobs)) 0 in
    finished-given (outcome_at outcomes first) (before first (found-below places (run_order jobs) bound is.some is.each))

-- a job whose sources finished, and which nothing stops
finish-over : (job : Job) (source : Source) (choice : Option ℕ) (report : JobReport) (items : List (List ℕ)) → source ≡ given items → IsReport job source choice report → IsGoodOver job source → is_unfinished report.ended ≡ false
finish-over job source choice report items is reported good =
    (good-finish job items choice report (subst (λ (source : Source). IsReport job source choice report) is reported) (subst (IsGoodOver job) is good)).finished

module _ (file : JobFile) (texts : Texts) (reports : List JobReport) (lawful : Lawful file) (are : AreReports texts file.jobs reports) (good : AreGood texts file.jobs) (d : Job) (e : JobReport) where
  finish-at : (place : ℕ) → place < length file.jobs → ((earlier : ℕ) → earlier < place → Finished (outcomes_of reports) earlier) → is_unfinished (get_or reports place e).ended ≡ false
  finish-at place within before =
      let job : Job = get_or file.jobs place d in
      let from = input-given texts file.jobs (outcomes_of reports) place job.input (lawful.each place d within).input before in
      finish-over job (source_of texts file.jobs (outcomes_of reports) job.input) (choice_of file.jobs job.input) (get_or reports place e) from.0 from.1
      (pairs-at (IsReportIn texts file.jobs reports) file.jobs reports place d e are within)
      (good reports are place d within)

  up-to : (bound : ℕ) → bound ≤ length file.jobs → (place : ℕ) → place < bound → Finished (outcomes_of reports) place
  up-to zero few place lower = absurd (omega arith)
  up-to (suc bound) few place lower =
      let before : (earlier : ℕ) → earlier < bound → Finished (outcomes_of reports) earlier = up-to bound (omega arith) in
      ⊎_elim (λ (less : place < bound). before place less) (λ (most : bound ≤ place).
      let same : bound ≡ place = omega arith in
      let number = pairs-number (IsReportIn texts file.jobs reports) file.jobs reports are in
      let within : bound < length file.jobs = omega arith in
      let inside : bound < length reports = omega (arith, number, within) in
      subst (Finished (outcomes_of reports)) same
      (ap is_unfinished (get_or-map (λ (report : JobReport). report.ended) reports bound e (Values []) inside) ∙ finish-at bound within before))
      (cases_lt place bound)

  pub each-finished : (place : ℕ) → place < length reports → is_unfinished (get_or reports place e).ended ≡ false
  each-finished place inside =
      let number = pairs-number (IsReportIn texts file.jobs reports) file.jobs reports are in
      let within : place < length file.jobs = omega (arith, number, inside) in
      finish-at place within (up-to place (omega arith))

some-job : (jobs : List Job) → 1 ≤ length jobs → Job
some-job [] some = absurd (omega arith)
some-job (job ∷ jobs) some = job

pub runs-finish : GoodRunsFinish
runs-finish file texts [] lawful are good = All-nil (λ (report : JobReport). is_unfinished report.ended ≡ false)
runs-finish file texts (report ∷ reports) lawful are good =
    let number = pairs-number (IsReportIn texts file.jobs (report ∷ reports)) file.jobs (report ∷ reports) are in
    let some : 1 ≤ length file.jobs = omega (arith, number) in
    All-from_get_or (λ (report : JobReport). is_unfinished report.ended ≡ false) (report ∷ reports) report
    (each-finished file texts (report ∷ reports) lawful are good (some-job file.jobs some) report)

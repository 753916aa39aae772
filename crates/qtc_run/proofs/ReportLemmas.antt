-- The texts of reports, job by job.
use Rattle.std.proofs.Common.{◌≡◌, ◌<◌, ◌+◌, ℕ, zero, suc, true, get_or, take, List, [], ◌∷◌, ◌++◌, length, Option, None, ◌⊎◌, ⊎_elim, refl, ap, sym, subst, ◌∙◌, append_assoc, append-nil, arith}
use Rattle.std.specs.List.{flat_map, zip}
use Rattle.std.proofs.lemmas.Bool.{and_parts}
use Rattle.qtc_job_file.specs.declared.jobs.Job.{Job}
use Rattle.qtc_run.specs.declared.reports.JobReport.{JobReport}
use Rattle.qtc_run.specs.Laws.{JobsAreReportedInOrder}
use Rattle.qtc_run.specs.Outputs.{AreReports, IsReportIn}
use Rattle.qtc_run.specs.Pairing.{EachPair}
use Rattle.qtc_run.specs.Reports.{IsReport}
use Rattle.qtc_run.specs.ReportTexts.{job_text}
use Rattle.qtc_run.specs.Rounds.{IsReportFor, IsSourceOf}
use Rattle.qtc_run.specs.Runnable.{are_runnable, is_runnable}
use Rattle.qtc_run.specs.Sources.{Source, Texts, choice_of, given, items_of, outcomes_of}
use Rattle.qtc_run.specs.declared.rounds.RoundJob.{RoundJob}
use Rattle.qtc_run.proofs.Plain.{no-choice, runnable-plain, source-given}

abbrev pub pair_text : Job × JobReport → List ℕ
pair_text pair = job_text pair.0.name pair.1

-- no jobs or no reports are left
pub text-end : (jobs : List Job) (reports : List JobReport) → (jobs ≡ []) ⊎ (reports ≡ []) → flat_map pair_text (zip jobs reports) ≡ []
text-end [] reports none = refl
text-end (j ∷ jobs) [] none = refl
text-end (j ∷ jobs) (r ∷ reports) none = ⊎_elim (λ e. absurd (let f : j ∷ jobs ≡ [] = e in cc)) (λ e. absurd (let f : r ∷ reports ≡ [] = e in cc)) none

-- a job more appends its text
pub text-push : (jobs : List Job) (reports : List JobReport) (job : Job) (done : JobReport) → length jobs ≡ length reports → flat_map pair_text (zip (jobs ++ job ∷ []) (reports ++ done ∷ [])) ≡ flat_map pair_text (zip jobs reports) ++ job_text job.name done
text-push [] [] job done same = append-nil (job_text job.name done)
text-push [] (r ∷ reports) job done same = absurd (omega arith)
text-push (j ∷ jobs) [] job done same = absurd (omega arith)
text-push (j ∷ jobs) (r ∷ reports) job done same =
    ap (λ s. job_text j.name r ++ s) (text-push jobs reports job done (omega arith))
    ∙ sym (append_assoc (job_text j.name r) (flat_map pair_text (zip jobs reports)) (job_text job.name done))

-- ---- jobs and reports, pair by pair

module _ {X Y : Type 0} (R : X → Y → Type 0) where
  pub pairs-number : (xs : List X) (ys : List Y) → EachPair R xs ys → length ys ≡ length xs
  pairs-number [] [] all = refl
  pairs-number [] (y ∷ ys) all = absurd all
  pairs-number (x ∷ xs) [] all = absurd all
  pairs-number (x ∷ xs) (y ∷ ys) all = let there = pairs-number xs ys all.1 in omega arith

  pub pairs-at : (xs : List X) (ys : List Y) (place : ℕ) (d : X) (e : Y) → EachPair R xs ys → place < length xs → R (get_or xs place d) (get_or ys place e)
  pairs-at [] ys place d e all within = absurd (omega arith)
  pairs-at (x ∷ xs) [] place d e all within = absurd all
  pairs-at (x ∷ xs) (y ∷ ys) zero d e all within = all.0
  pairs-at (x ∷ xs) (y ∷ ys) (suc place) d e all within = pairs-at xs ys place d e all.1 (omega arith)

  pub pairs-push : (xs : List X) (ys : List Y) (x : X) (y : Y) → EachPair R xs ys → R x y → EachPair R (xs ++ x ∷ []) (ys ++ y ∷ [])
  pairs-push [] [] x y all last = (last, tt)
  pairs-push [] (z ∷ ys) x y all last = absurd all
  pairs-push (z ∷ xs) [] x y all last = absurd all
  pairs-push (z ∷ xs) (w ∷ ys) x y all last = (all.0, pairs-push xs ys x y all.1 last)

-- a front with the next one
pub take-next : {X : Type 0} (xs : List X) (place : ℕ) (x : X) → place < length xs → x ≡ get_or xs place x → take (place + 1) xs ≡ take place xs ++ x ∷ []
take-next [] place x within is = absurd (omega arith)
take-next (y ∷ xs) zero x within is = ap (λ z. z ∷ []) (sym is)
take-next (y ∷ xs) (suc place) x within is =
    let next : suc place + 1 ≡ suc (place + 1) = omega arith in
    rw next (ap (λ zs. y ∷ zs) (take-next xs place x (omega arith) is))

-- one job more of a file is reported
pub pairs-next : {X Y : Type 0} (R : X → Y → Type 0) (xs : List X) (ys zs : List Y) (place : ℕ) (x : X) (y : Y) → place < length xs → x ≡ get_or xs place x → zs ≡ ys ++ y ∷ [] → EachPair R (take place xs) ys → R x y → EachPair R (take (place + 1) xs) zs
pairs-next R xs ys zs place x y within is more all last =
    rw (take-next xs place x within is, more) (pairs-push R (take place xs) ys x y all last)

pub stand-by-place : JobsAreReportedInOrder
stand-by-place texts jobs reports all = record {
  number = pairs-number (IsReportIn texts jobs reports) jobs reports all;
  each = λ place d e within. pairs-at (IsReportIn texts jobs reports) jobs reports place d e all within;
}

-- ---- jobs, what they read, and what is reported of them

-- a job of texts, of a file with these jobs and reports
report-in : (texts : Texts) (jobs : List Job) (reports : List JobReport) (job : Job) (source : RoundJob) (report : JobReport) → is_runnable job ≡ true → IsSourceOf texts job source → IsReportFor source report → IsReportIn texts jobs reports job report
report-in texts jobs reports job source report ready is reported =
    let plain = runnable-plain job ready in
    let of_job = subst (λ (job : Job). IsReport job (given source.items) None report) is.job_is reported in
    let of_items = subst (λ (items : List (List ℕ)). IsReport job (given items) None report) is.items_are of_job in
    let of_choice = subst (λ (choice : Option ℕ). IsReport job (given (items_of texts job.input)) choice report) (sym (no-choice jobs job.input plain.reads)) of_items in
    subst (λ (source : Source). IsReport job source (choice_of jobs job.input) report) (sym (source-given texts jobs (outcomes_of reports) job.input plain.reads)) of_choice

each-in : (texts : Texts) (jobs : List Job) (reports : List JobReport) (some : List Job) (sources : List RoundJob) (theirs : List JobReport) → are_runnable some ≡ true → EachPair (IsSourceOf texts) some sources → EachPair IsReportFor sources theirs → EachPair (IsReportIn texts jobs reports) some theirs
each-in texts jobs reports [] [] [] ready are reported = tt
each-in texts jobs reports [] [] (report ∷ theirs) ready are reported = reported
each-in texts jobs reports [] (source ∷ sources) theirs ready are reported = absurd are
each-in texts jobs reports (job ∷ some) [] theirs ready are reported = absurd are
each-in texts jobs reports (job ∷ some) (source ∷ sources) [] ready are reported = absurd reported
each-in texts jobs reports (job ∷ some) (source ∷ sources) (report ∷ theirs) ready are reported =
    let parts = and_parts _ _ ready in
    (report-in texts jobs reports job source report parts.0 are.0 reported.0, each-in texts jobs reports some sources theirs parts.1 are.1 reported.1)

pub reports-of : (texts : Texts) (jobs : List Job) (sources : List RoundJob) (reports : List JobReport) → are_runnable jobs ≡ true → EachPair (IsSourceOf texts) jobs sources → EachPair IsReportFor sources reports → AreReports texts jobs reports
reports-of texts jobs sources reports ready are reported = each-in texts jobs reports jobs sources reports ready are reported

-- The grammar reads the canonical text of a lawful file back as that file.
use Rattle.std.proofs.Common.{◌≡◌, ℕ, suc, ◌+◌, ◌<◌, ◌≤◌, List, [], ◌∷◌, length, get_or, map, refl, sym, subst, ◌∙◌, arith}
use Rattle.std.proofs.lemmas.List.{length-map}
use Rattle.qtc_base.specs.Decimal.{decimal_text, number_of}
use Rattle.qtc_job_file.specs.declared.jobs.Job.{Job}
use Rattle.qtc_job_file.specs.declared.jobs.JobFile.{JobFile}
use Rattle.qtc_job_file.specs.Canonical.{canonical, file_lines, names_of}
use Rattle.qtc_job.specs.Codes.{form_codes}
use Rattle.qtc_job.specs.Forms.{number, workers_form}
use Rattle.qtc_job.specs.Grammar.{Reads}
use Rattle.qtc_job_file.specs.Keywords.{keyword_of}
use Rattle.qtc_job_file.specs.Lawful.{IsJob, Lawful}
use Rattle.qtc_job.specs.Lines.{workers, line_of_words, lines_of}
use Rattle.qtc_job.specs.Meaning.{file_of}
use Rattle.qtc_job.proofs.CutLemmas.{lines-whole}
use Rattle.qtc_job.proofs.CanonicalFiles.{AreJobs, jobs-read, lines_said}
use Rattle.qtc_job.proofs.GoodLemmas.{good-reads}
use Rattle.qtc_job.proofs.NumberLemmas.{number-read, number-numeral, number-within}
use Rattle.qtc_job.proofs.ParseLemmas.{same_file}
use Rattle.qtc_job.proofs.PlaceLemmas.{exactly-one_none, number-none}
use Rattle.qtc_job.proofs.SolidLemmas.{file-whole}

jobs-are : (place : ℕ) (jobs : List Job) → ((i : ℕ) (d : Job) → i < length jobs → IsJob (place + i) (get_or jobs i d)) → AreJobs place jobs
jobs-are place [] each = tt
jobs-are place (j ∷ jobs) each =
    let first : place + 0 ≡ place = omega arith in (
      subst (λ (n : ℕ). IsJob n j) first (each 0 j (omega arith)),
      jobs-are (suc place) jobs (λ i d less. let next : place + suc i ≡ suc place + i = omega arith in subst (λ (n : ℕ). IsJob n (get_or jobs i d)) next (each (suc i) d (omega arith))),
    )

pub lawful-jobs : (file : JobFile) → Lawful file → AreJobs 0 file.jobs
lawful-jobs file lawful = jobs-are 0 file.jobs (λ i d less. let e : 0 + i ≡ i = omega arith in subst (λ (n : ℕ). IsJob n (get_or file.jobs i d)) (sym e) (lawful.each i d less))

workers-none : (n : ℕ) → 1 ≤ n → n ≤ 32 → form_codes [] (workers_form (decimal_text n ∷ [])) ≡ []
workers-none n low high = exactly-one_none [] (number 1 32) (decimal_text n) (number-none [] 1 32 (decimal_text n) (number-numeral n (omega arith)) (number-within 1 32 n (omega arith) low high))

file-lines : (file : JobFile) → map line_of_words (file_lines file) ≡ workers (decimal_text file.workers ∷ []) ∷ lines_said (names_of file.jobs) file.jobs
unfolding keyword_of
file-lines file = refl

pub canonical-read : (file : JobFile) → Lawful file → Reads (lines_of (canonical file)) file
canonical-read file lawful =
    let are = lawful-jobs file lawful in
    let all = names_of file.jobs in
    let args = decimal_text file.workers ∷ [] in
    let size : length all ≡ length file.jobs = length-map file.jobs (λ j. j.name) in
    let few = lawful.few in
    let high = lawful.workers.1 in
    let read = jobs-read (workers args ∷ []) [] all file.jobs refl refl lawful.distinct (omega arith) are in
    let lines : lines_of (canonical file) ≡ workers args ∷ lines_said all file.jobs = lines-whole (file_lines file) (file-whole file lawful are) ∙ file-lines file in
    let form = workers-none file.workers lawful.workers.0 high in
    let spelled : file.workers ≡ number_of (decimal_text file.workers) = sym (number-read file.workers (omega arith)) in
    rw lines (good-reads (workers args ∷ lines_said all file.jobs) file (rw form refl, read.good) (same_file file (file_of (workers args ∷ lines_said all file.jobs)) spelled read.says))

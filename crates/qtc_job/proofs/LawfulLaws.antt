-- Each file that a text is read as is lawful.
use Rattle.std.proofs.Common.{◌≡◌, ℕ, zero, suc, ◌+◌, ◌<◌, ◌≤◌, true, false, cond, leb, List, [], ◌∷◌, ◌++◌, length, get_or, refl, ap, sym, subst, ◌∙◌, ⊎_elim, append_assoc, append-nil, arith}
use Rattle.std.specs.Prelude.{All, IfOk, Result, Ok, Err, filter}
use Rattle.std.specs.List.{flat_map, list_any, AllPairs}
use Rattle.std.specs.Str.{bytes_eq}
use Rattle.std.proofs.lemmas.Bool.{cases_Bool, both_ways, leb-false, or_parts}
use Rattle.std.proofs.lemmas.Grind.{common_steps}
use Rattle.std.proofs.lemmas.List.Elements.{All-nil, All-cons, filter-append}
use Rattle.std.proofs.lemmas.List.Quantifiers.{all_pairs_push}
use Rattle.std.proofs.lemmas.List.{length-map}
use Rattle.std.proofs.lemmas.Slice.Eq.{bytes_eq-Decides}
use Rattle.qtc_base.specs.Decimal.{decimal_text}
use Rattle.qtc_job_file.specs.declared.jobs.Job.{Job}
use Rattle.qtc_job_file.specs.declared.jobs.JobFile.{JobFile}
use Rattle.qtc_job.specs.declared.faults.ParseFault.{ParseFault}
use Rattle.qtc_job_file.specs.declared.keywords.Keyword.{Keyword}
use Rattle.qtc_job_file.specs.declared.keywords.Keyword.TheVariants as word
use Rattle.qtc_job_file.specs.Canonical.{file_lines, job_lines, line_text, names_of}
use Rattle.qtc_job.specs.Codes.{above_codes, codes_on, earlier_names, form_codes, is_a_job_too_many, is_chain, is_chained_too_late, is_in_job, is_misplaced, is_repeated, job_codes, name_of, names_above, own_above, own_below, own_codes, repeats_a_name, where_}
use Rattle.qtc_job.specs.Forms.{directive_form, job_form, workers_form}
use Rattle.qtc_job.specs.Grammar.{Reads}
use Rattle.qtc_job_file.specs.Keywords.{spelling}
use Rattle.qtc_job_file.specs.Lawful.{IsJob, IsWithin, Lawful}
use Rattle.qtc_job.specs.Lines.{Line, too_long, silent, unknown, workers, job, says, lines_of}
use Rattle.qtc_job_file.specs.Names.{is_name}
use Rattle.qtc_job.specs.Meaning.{chain_of, file_of, job_of, jobs_of, workers_of}
use Rattle.qtc_job.proofs.CanonicalFiles.{AreJobs}
use Rattle.qtc_job.proofs.GoodLemmas.{AreGood, reads-good}
use Rattle.qtc_job.proofs.NumberLemmas.{number-size}
use Rattle.qtc_job.proofs.LawfulJobs.{AreOwnGood, AreShort, job-own, short-append, two-short}
use Rattle.qtc_job.proofs.PlaceLemmas.{append-none, where-none}
use Rattle.qtc_job.proofs.StepLemmas.{chains-one}
use Rattle.qtc_job.proofs.LawfulLines.{job-said, workers-said}
use Rattle.qtc_job.proofs.SourceLemmas.{AreFromText, lines-sourced}

-- ---- one line

record HasNoAboveCodes (above : List Line) (line : Line) : Type 0 where
  repeated : is_repeated above line ≡ false
  name : repeats_a_name above line ≡ false
  many : is_a_job_too_many above line ≡ false
  misplaced : is_misplaced above line ≡ false
  late : is_chained_too_late above line ≡ false

no-above : (above : List Line) (line : Line) → above_codes above line ≡ [] → HasNoAboveCodes above line
no-above above line e =
    let a = append-none (where_ (is_repeated above line) 5) _ e in
    let b = append-none (where_ (repeats_a_name above line) 7) _ a.1 in
    let c = append-none (where_ (is_a_job_too_many above line) 12) _ b.1 in
    let d = append-none (where_ (is_misplaced above line) 16) _ c.1 in
    record {
      repeated = where-none (is_repeated above line) 5 a.0;
      name = where-none (repeats_a_name above line) 7 b.0;
      many = where-none (is_a_job_too_many above line) 12 c.0;
      misplaced = where-none (is_misplaced above line) 16 d.0;
      late = where-none (is_chained_too_late above line) 17 d.1;
    }

says-good : (above below : List Line) (k : Keyword) (args : List (List ℕ)) → codes_on above (says k args) below ≡ [] → (form_codes (earlier_names above) (directive_form k args) ≡ []) × HasNoAboveCodes above (says k args)
says-good above below k args e =
    let own = append-none (own_codes above (says k args)) [] e in
    let parts = append-none (form_codes (earlier_names above) (directive_form k args)) (above_codes above (says k args)) own.0 in
    (parts.0, no-above above (says k args) parts.1)

record IsJobGood (above below : List Line) (args : List (List ℕ)) : Type 0 where
  named : List ℕ
  is : args ≡ named ∷ []
  name : is_name named ≡ true
  above_it : HasNoAboveCodes above (job args)
  own : job_codes (own_below below) ≡ []

job-good : (above below : List Line) (args : List (List ℕ)) → codes_on above (job args) below ≡ [] → IsJobGood above below args
job-good above below args e =
    let both = append-none (own_codes above (job args)) (job_codes (own_below below)) e in
    let parts = append-none (form_codes [] (job_form args)) (above_codes above (job args)) both.0 in
    let said = job-said args parts.0 in
    record { named = said.0; is = said.1; name = said.2; above_it = no-above above (job args) parts.1; own = both.1 }

-- ---- the lines of one job

own-good : (above below : List Line) → AreGood above below → AreFromText below → AreOwnGood (earlier_names above) (own_below below)
own-good above [] good from = tt
own-good above (too_long ∷ below) good from = (tt, own-good (too_long ∷ above) below good.1 from.1)
own-good above (silent ∷ below) good from = (tt, own-good (silent ∷ above) below good.1 from.1)
own-good above (unknown ∷ below) good from = (tt, own-good (unknown ∷ above) below good.1 from.1)
own-good above (workers args ∷ below) good from = (tt, own-good (workers args ∷ above) below good.1 from.1)
own-good above (job args ∷ below) good from = tt
own-good above (says k args ∷ below) good from =
    (((says-good above below k args good.0).0, from.0), own-good (says k args ∷ above) below good.1 from.1)

-- how many lines of the chain stand above
abbrev chained : List Line → ℕ
chained own = length (filter is_chain own)

chained-push : (own : List Line) (l : Line) → chained (own ++ l ∷ []) ≡ chained own + cond (is_chain l) 1 0
chained-push own l = ⊎_elim
    (λ (there : is_chain l ≡ true). rw (filter-append is_chain own (l ∷ [])) (rw there (grind (arith, common_steps))))
    (λ (other : is_chain l ≡ false). rw (filter-append is_chain own (l ∷ [])) (rw other (grind (arith, common_steps))))
    (cases_Bool (is_chain l))

chain-room : (above : List Line) (line : Line) → is_in_job above ≡ true → is_chain line ≡ true → is_chained_too_late above line ≡ false → chained (own_above above) < 8
chain-room above line in_job chain late =
    let f : leb 8 (chained (own_above above)) ≡ false = rw (chain, in_job) at late in
    leb-false 8 (chained (own_above above)) f

chain-few : (above : List Line) (k : Keyword) (args : List (List ℕ)) → is_in_job above ≡ true → is_chained_too_late above (says k args) ≡ false → chained (own_above above) ≤ 8 → chained (own_above above ++ says k args ∷ []) ≤ 8
chain-few above k args in_job late few =
    let size = chained-push (own_above above) (says k args) in
    ⊎_elim
    (λ (there : is_chain (says k args) ≡ true).
    let room = chain-room above (says k args) in_job there late in
    let one : chained (own_above above ++ says k args ∷ []) ≡ chained (own_above above) + 1 = rw there at size in
    omega arith)
    (λ (other : is_chain (says k args) ≡ false).
    let none : chained (own_above above ++ says k args ∷ []) ≡ chained (own_above above) + 0 = rw other at size in
    omega arith)
    (cases_Bool (is_chain (says k args)))

chain-same : (above : List Line) (line : Line) → is_chain line ≡ false → chained (own_above above) ≤ 8 → chained (own_above above ++ line ∷ []) ≤ 8
chain-same above line other few =
    let size = chained-push (own_above above) line in
    let none : chained (own_above above ++ line ∷ []) ≡ chained (own_above above) + 0 = rw other at size in
    omega arith

own-step : (above below : List Line) (line : Line) → chained ((own_above above ++ line ∷ []) ++ own_below below) ≤ 8 → chained (own_above above ++ line ∷ own_below below) ≤ 8
own-step above below line few = subst (λ (l : List Line). chained l ≤ 8) (append_assoc (own_above above) (line ∷ []) (own_below below)) few

own-few : (above below : List Line) → AreGood above below → is_in_job above ≡ true → chained (own_above above) ≤ 8 → chained (own_above above ++ own_below below) ≤ 8
own-few above [] good in_job few = rw (append-nil (own_above above)) few
own-few above (too_long ∷ below) good in_job few = own-step above below too_long (own-few (too_long ∷ above) below good.1 in_job (chain-same above too_long refl few))
own-few above (silent ∷ below) good in_job few = own-step above below silent (own-few (silent ∷ above) below good.1 in_job (chain-same above silent refl few))
own-few above (unknown ∷ below) good in_job few = own-step above below unknown (own-few (unknown ∷ above) below good.1 in_job (chain-same above unknown refl few))
own-few above (workers args ∷ below) good in_job few = own-step above below (workers args) (own-few (workers args ∷ above) below good.1 in_job (chain-same above (workers args) refl few))
own-few above (job args ∷ below) good in_job few = rw (append-nil (own_above above)) few
own-few above (says k args ∷ below) good in_job few =
    own-step above below (says k args) (own-few (says k args ∷ above) below good.1 in_job (chain-few above k args in_job (says-good above below k args good.0).1.late few))

-- ---- names

no-any : (names : List (List ℕ)) (named : List ℕ) → list_any (bytes_eq named) names ≡ false → (k : ℕ) (d : List ℕ) → k < length names → ¬ (get_or names k d ≡ named)
no-any [] named none k d less same = omega arith
no-any (n ∷ names) named none zero d less same =
    let parts = or_parts (bytes_eq named n) (list_any (bytes_eq named) names) none in
    both_ways (bytes_eq named n) parts.0 ((bytes_eq-Decides named n).1 (sym same))
no-any (n ∷ names) named none (suc k) d less same =
    let parts = or_parts (bytes_eq named n) (list_any (bytes_eq named) names) none in
    no-any names named parts.1 k d (omega arith) same

record AreNames (names : List (List ℕ)) : Type 0 where
  apart : AllPairs (λ a b. ¬ (a ≡ b)) names
  few : length names ≤ 64

names-push : (above : List Line) (named : List ℕ) → HasNoAboveCodes above (job (named ∷ [])) → AreNames (names_above above) → AreNames (names_above above ++ named ∷ [])
names-push above named none are =
    let names = names_above above in
    let fresh : list_any (bytes_eq named) names ≡ false = none.name in
    let room = leb-false 64 (length names) none.many in
    record {
      apart = all_pairs_push (λ a b. ¬ (a ≡ b)) names named are.apart (no-any names named fresh);
      few = grind (arith, common_steps);
    }

names-good : (above below : List Line) → AreGood above below → AreNames (names_above above) → AreNames (names_above above ++ names_of (jobs_of (names_above above) below))
names-good above [] good are = rw (append-nil (names_above above)) are
names-good above (too_long ∷ below) good are = names-good (too_long ∷ above) below good.1 are
names-good above (silent ∷ below) good are = names-good (silent ∷ above) below good.1 are
names-good above (unknown ∷ below) good are = names-good (unknown ∷ above) below good.1 are
names-good above (workers args ∷ below) good are = names-good (workers args ∷ above) below good.1 are
names-good above (says k args ∷ below) good are = names-good (says k args ∷ above) below good.1 are
names-good above (job args ∷ below) good are =
    let one = job-good above below args good.0 in
    let none = subst (λ (a : List (List ℕ)). HasNoAboveCodes above (job a)) one.is one.above_it in
    let named : name_of args ≡ one.named = ap name_of one.is in
    let pushed = subst (λ (n : List ℕ). AreNames (names_above above ++ n ∷ [])) (sym named) (names-push above one.named none are) in
    let there = names-good (job args ∷ above) below good.1 pushed in
    subst AreNames (append_assoc (names_above above) (name_of args ∷ []) (names_of (jobs_of (names_above above ++ name_of args ∷ []) below))) there

-- ---- all jobs

record AreLawful (all : List (List ℕ)) (place : ℕ) (jobs : List Job) : Type 0 where
  each : AreJobs place jobs
  short : AreShort (flat_map (job_lines all) jobs)

lawful-one : (all : List (List ℕ)) (place : ℕ) (j : Job) (jobs : List Job) → IsJob place j × AreShort (job_lines all j) → AreLawful all (suc place) jobs → AreLawful all place (j ∷ jobs)
lawful-one all place j jobs one more = record {
  each = (one.0, more.each);
  short = short-append (job_lines all j) (flat_map (job_lines all) jobs) one.1 more.short;
}

own-count : (above below : List Line) (args : List (List ℕ)) → AreGood (job args ∷ above) below → length (chain_of (own_below below)) ≤ 8
own-count above below args good =
    let few : chained (own_below below) ≤ 8 = own-few (job args ∷ above) below good refl (omega arith) in
    let same = chains-one (own_below below) in
    omega arith

jobs-good : (all : List (List ℕ)) (above below : List Line) → AreGood above below → AreFromText below → all ≡ names_above above ++ names_of (jobs_of (names_above above) below) → AreLawful all (length (names_above above)) (jobs_of (names_above above) below)
jobs-good all above [] good from e = record { each = tt; short = tt }
jobs-good all above (too_long ∷ below) good from e = jobs-good all (too_long ∷ above) below good.1 from.1 e
jobs-good all above (silent ∷ below) good from e = jobs-good all (silent ∷ above) below good.1 from.1 e
jobs-good all above (unknown ∷ below) good from e = jobs-good all (unknown ∷ above) below good.1 from.1 e
jobs-good all above (workers args ∷ below) good from e = jobs-good all (workers args ∷ above) below good.1 from.1 e
jobs-good all above (says k args ∷ below) good from e = jobs-good all (says k args ∷ above) below good.1 from.1 e
jobs-good all above (job args ∷ below) good from e =
    let names = names_above above in
    let one = job-good above below args good.0 in
    let named : name_of args ≡ one.named = ap name_of one.is in
    let is : is_name (name_of args) ≡ true = ap is_name named ∙ one.name in
    let later = jobs_of (names ++ name_of args ∷ []) below in
    let own = own-good (job args ∷ above) below good.1 from.1 in
    let here = job-own names all (names_of (jobs_of names (job args ∷ below))) (name_of args) (own_below below) e is own one.own (own-count above below args good.1) in
    let longer : length (names ++ name_of args ∷ []) ≡ suc (length names) = grind (arith, common_steps) in
    let there = jobs-good all (job args ∷ above) below good.1 from.1 (e ∙ sym (append_assoc names (name_of args ∷ []) (names_of later))) in
    lawful-one all (length names) (job_of names (name_of args) (own_below below)) later here (subst (λ (n : ℕ). AreLawful all n later) longer there)

-- ---- the file

workers-good : (above below : List Line) → AreGood above below → IsWithin 1 32 (workers_of below)
workers-good above [] good = (omega arith, omega arith)
workers-good above (too_long ∷ below) good = workers-good (too_long ∷ above) below good.1
workers-good above (silent ∷ below) good = workers-good (silent ∷ above) below good.1
workers-good above (unknown ∷ below) good = workers-good (unknown ∷ above) below good.1
workers-good above (workers args ∷ below) good =
    let own = append-none (own_codes above (workers args)) [] good.0 in
    workers-said args (append-none (form_codes [] (workers_form args)) (above_codes above (workers args)) own.0).0
workers-good above (job args ∷ below) good = workers-good (job args ∷ above) below good.1
workers-good above (says k args ∷ below) good = workers-good (says k args ∷ above) below good.1

each-job : (place : ℕ) (jobs : List Job) → AreJobs place jobs → (i : ℕ) (d : Job) → i < length jobs → IsJob (place + i) (get_or jobs i d)
each-job place [] are i d less = absurd (omega arith)
each-job place (j ∷ jobs) are zero d less = let e : place ≡ place + 0 = omega arith in subst (λ (n : ℕ). IsJob n j) e are.0
each-job place (j ∷ jobs) are (suc i) d less =
    let e : suc place + i ≡ place + suc i = omega arith in
    subst (λ (n : ℕ). IsJob n (get_or jobs i d)) e (each-job (suc place) jobs are.1 i d (omega arith))

all-short : (ls : List (List (List ℕ))) → AreShort ls → All (λ ws. length (line_text ws) ≤ 4096) ls
all-short [] short = All-nil (λ ws. length (line_text ws) ≤ 4096)
all-short (ws ∷ ls) short = All-cons (λ ws. length (line_text ws) ≤ 4096) ws ls short.0 (all-short ls short.1)

workers-short : (n : ℕ) → n ≤ 32 → length (line_text (spelling word.Workers ∷ decimal_text n ∷ [])) ≤ 4096
workers-short n few =
    let size = number-size 2 n (omega arith) (omega arith) (omega arith) in
    two-short (spelling word.Workers) (decimal_text n) (omega arith)

no-names : AreNames []
no-names = record { apart = λ i j d less within. absurd (omega arith); few = omega arith }

lines-lawful : (ls : List Line) → AreGood [] ls → AreFromText ls → Lawful (file_of ls)
lines-lawful ls good from =
    let jobs = jobs_of [] ls in
    let all = names_of jobs in
    let names = names-good [] ls good no-names in
    let are = jobs-good all [] ls good from refl in
    let count = workers-good [] ls good in
    let size : length all ≡ length jobs = length-map jobs (λ j. j.name) in
    let few = names.few in
    record {
      workers = count;
      few = omega arith;
      distinct = names.apart;
      each = λ i d less. let e : 0 + i ≡ i = omega arith in subst (λ (n : ℕ). IsJob n (get_or jobs i d)) e (each-job 0 jobs are.each i d less);
      short = all-short (file_lines (file_of ls)) (workers-short (workers_of ls) count.1, are.short);
    }

pub read-lawful : (text : List ℕ) (file : JobFile) → Reads (lines_of text) file → Lawful file
read-lawful text file reads =
    subst Lawful (sym reads.says) (lines-lawful (lines_of text) (reads-good (lines_of text) file reads) (lines-sourced text))

pub ok-lawful : (text : List ℕ) (result : Result JobFile ParseFault) → IfOk result (Reads (lines_of text)) → IfOk result Lawful
ok-lawful text (Ok file) reads = read-lawful text file reads
ok-lawful text (Err refused) reads = tt

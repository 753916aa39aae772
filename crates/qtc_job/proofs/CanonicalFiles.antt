-- The canonical lines of the jobs of a file have no code, and say these jobs.
use Rattle.std.proofs.Common.{◌≡◌, ℕ, suc, ◌+◌, ◌<◌, ◌≤◌, Bool, true, false, eqb, leb, List, [], ◌∷◌, ◌++◌, length, get_or, map, Option, Some, None, is_some, unwrap_or, refl, ap, sym, subst, ◌∙◌, ⊎_elim, append_assoc, append-nil, arith}
use Rattle.std.specs.Prelude.{◌&&◌, IsTrue, not}
use Rattle.std.specs.List.{flat_map, list_any}
use Rattle.std.specs.Str.{bytes_eq}
use Rattle.std.proofs.lemmas.Bool.{cases_Bool, or_parts, lt-leb, eqb-true, false_from_ne_true}
use Rattle.std.proofs.lemmas.Grind.{common_steps}
use Rattle.std.proofs.lemmas.List.{map-append, get_or_append_left, get_or_at}
use Rattle.qtc_ops.specs.declared.operations.ItemOp.{ItemOp}
use Rattle.qtc_ops.specs.declared.operations.ItemOp.TheVariants as item
use Rattle.qtc_ops.specs.declared.fold_ops.FoldOp.{FoldOp}
use Rattle.qtc_job_file.specs.declared.jobs.Job.{Job}
use Rattle.qtc_job_file.specs.Canonical.{job_lines, names_of, own_lines}
use Rattle.qtc_job.specs.Codes.{codes_on, form_codes, job_codes, names_above, own_above, own_below}
use Rattle.qtc_job.specs.Drafts.{IsDraft, one_of}
use Rattle.qtc_job.specs.Forms.{job_form, name}
use Rattle.qtc_job_file.specs.Keywords.{keyword_of}
use Rattle.qtc_job_file.specs.Lawful.{IsJob}
use Rattle.qtc_job.specs.Lines.{Line, too_long, silent, unknown, workers, job, says, is_job, line_of_words}
use Rattle.qtc_job.specs.Meaning.{job_of, jobs_of, place_of}
use Rattle.qtc_job.proofs.JobLemmas.{good, job-is}
use Rattle.qtc_job.proofs.CanonicalSteps.{down, IsAt, map_of, filter_of}
use Rattle.qtc_job.proofs.GoodLemmas.{AreGood}
use Rattle.qtc_job.proofs.PlaceLemmas.{AreApart, exactly-one_none, name-none, name-found}
use Rattle.qtc_job.proofs.CanonicalJobs.{begun, ended_draft, goes-job, order_of, count_of}

-- ---- lines of one job below its job line

own-down : (above ls : List Line) → list_any is_job ls ≡ false → own_above (down above ls) ≡ own_above above ++ ls
own-down above [] none = sym (append-nil (own_above above))
own-down above (l ∷ ls) none =
    let parts = or_parts (is_job l) (list_any is_job ls) none in
    let here : own_above (l ∷ above) ≡ own_above above ++ l ∷ [] = rw parts.0 refl in
    own-down (l ∷ above) ls parts.1 ∙ (ap (λ o. o ++ ls) here ∙ append_assoc (own_above above) (l ∷ []) ls)

own-up : (ls rest : List Line) → list_any is_job ls ≡ false → own_below (ls ++ rest) ≡ ls ++ own_below rest
own-up [] rest none = refl
own-up (l ∷ ls) rest none =
    let parts = or_parts (is_job l) (list_any is_job ls) none in
    rw parts.0 (ap (λ o. l ∷ o) (own-up ls rest parts.1))

names-past : (above : List Line) (l : Line) → is_job l ≡ false → names_above (l ∷ above) ≡ names_above above
names-past above too_long none = refl
names-past above silent none = refl
names-past above unknown none = refl
names-past above (workers args) none = refl
names-past above (job args) none = cc
names-past above (says k args) none = refl

names-down : (above ls : List Line) → list_any is_job ls ≡ false → names_above (down above ls) ≡ names_above above
names-down above [] none = refl
names-down above (l ∷ ls) none =
    let parts = or_parts (is_job l) (list_any is_job ls) none in
    names-down (l ∷ above) ls parts.1 ∙ names-past above l parts.0

jobs-past : (names : List (List ℕ)) (l : Line) (below : List Line) → is_job l ≡ false → jobs_of names (l ∷ below) ≡ jobs_of names below
jobs-past names too_long below none = refl
jobs-past names silent below none = refl
jobs-past names unknown below none = refl
jobs-past names (workers args) below none = refl
jobs-past names (job args) below none = cc
jobs-past names (says k args) below none = refl

jobs-up : (names : List (List ℕ)) (ls rest : List Line) → list_any is_job ls ≡ false → jobs_of names (ls ++ rest) ≡ jobs_of names rest
jobs-up names [] rest none = refl
jobs-up names (l ∷ ls) rest none =
    let parts = or_parts (is_job l) (list_any is_job ls) none in
    jobs-past names l (ls ++ rest) parts.0 ∙ jobs-up names ls rest parts.1

-- ---- one job

job-at : (above : List Line) (names : List (List ℕ)) (named : List ℕ) → names_above above ≡ names → IsAt names (job (named ∷ []) ∷ above) (begun named)
job-at above names named e = record {
  in_job = refl;
  earlier = e;
  says = record {
    input = refl;
    map = refl;
    filter = refl;
    fold = refl;
    order = refl;
    blocks = refl;
    priority = refl;
    cancel_after = refl;
    suspend_after = refl;
    watch = refl;
    chain = refl;
  };
}

one-function : (op : ItemOp) → one_of (map_of op) (filter_of op) ≡ Some op
one-function (item.Map op) = refl
one-function (item.Keep negated pred) = refl

ordered-fold : (fold : Option FoldOp) (ordered : Bool) → (is_some (order_of fold ordered) && not (is_some fold)) ≡ false
ordered-fold None ordered = refl
ordered-fold (Some fold) ordered = refl

ordered-or : (fold : Option FoldOp) (ordered : Bool) → (IsTrue ordered → is_some fold ≡ true) → ordered ≡ unwrap_or (order_of fold ordered) false
ordered-or None true only = let none : false ≡ true = only refl in cc
ordered-or None false only = refl
ordered-or (Some fold) ordered only = refl

count-or : (count : ℕ) → count ≡ unwrap_or (count_of count) 0
count-or count = ⊎_elim
    (λ (never : eqb count 0 ≡ true). rw never (eqb-true count 0 never))
    (λ (some : eqb count 0 ≡ false). rw some refl)
    (cases_Bool (eqb count 0))

pub record IsJobRead (names : List (List ℕ)) (j : Job) (own : List Line) : Type 0 where
  pub codes : job_codes own ≡ []
  pub says : j ≡ job_of names j.name own

job-read : (names : List (List ℕ)) (place : ℕ) (j : Job) (own : List Line) → IsJob place j → IsDraft names own (ended_draft j) → IsJobRead names j own
job-read names place j own is d = record {
  codes = good names own (ended_draft j) j.input j.op d refl (one-function j.op) (ordered-fold j.fold j.ordered);
  says = job-is names own (ended_draft j) j.input j.op j.ordered j.blocks j.priority j.cancel_after j.suspend_after d refl (one-function j.op) (ordered-or j.fold j.ordered is.ordered) refl refl (count-or j.cancel_after) (count-or j.suspend_after);
}

-- ---- the job line

apart-front : (names all more : List (List ℕ)) → all ≡ names ++ more → AreApart all → AreApart names
apart-front names all more e apart = λ i j d less within same.
    let size : length all ≡ length names + length more = ap length e ∙ grind (arith, common_steps) in
    let a : get_or all i d ≡ get_or names i d = ap (λ l. get_or l i d) e ∙ get_or_append_left names more d i (omega arith) in
    let b : get_or all j d ≡ get_or names j d = ap (λ l. get_or l j d) e ∙ get_or_append_left names more d j within in
    apart i j d less (omega arith) (a ∙ (same ∙ sym b))

name-new : (names all more : List (List ℕ)) (named : List ℕ) → all ≡ names ++ named ∷ more → AreApart all → list_any (bytes_eq named) names ≡ false
name-new names all more named e apart = false_from_ne_true (list_any (bytes_eq named) names) (λ there.
    let found = name-found names named there in
    let less = found.0 in
    let size : length all ≡ length names + (1 + length more) = ap length e ∙ grind (arith, common_steps) in
    let first : get_or all (place_of names named) [] ≡ named = ap (λ l. get_or l (place_of names named) []) e ∙ (get_or_append_left names (named ∷ more) [] (place_of names named) less ∙ found.1) in
    let here : get_or all (length names) [] ≡ named = ap (λ l. get_or l (length names) []) e ∙ get_or_at names named more [] (length names) refl in
    apart (place_of names named) (length names) [] less (omega arith) (first ∙ sym here))

job-codes : (above : List Line) (names : List (List ℕ)) (j : Job) (own rest : List Line) → names_above above ≡ names → length names < 64 → list_any (bytes_eq j.name) names ≡ false → IsJob (length names) j → list_any is_job own ≡ false → own_below rest ≡ [] → job_codes own ≡ [] → codes_on above (job (j.name ∷ [])) (own ++ rest) ≡ []
job-codes above names j own rest e few new is alone ends none =
    let form : form_codes [] (job_form (j.name ∷ [])) ≡ [] = exactly-one_none [] name j.name (name-none [] j.name is.name) in
    let fresh : list_any (bytes_eq j.name) (names_above above) ≡ false = ap (list_any (bytes_eq j.name)) e ∙ new in
    let size = ap length e in
    let room : leb 64 (length (names_above above)) ≡ false = lt-leb 64 (length (names_above above)) (omega arith) in
    let below : own_below (own ++ rest) ≡ own = own-up own rest alone ∙ (ap (λ o. own ++ o) ends ∙ append-nil own) in
    rw (form, fresh, room, below, none) refl

-- ---- all jobs

abbrev pub AreJobs : ℕ → List Job → Type 0
AreJobs place [] = Unit {0}
AreJobs place (j ∷ jobs) = IsJob place j × AreJobs (suc place) jobs

abbrev pub lines_said : List (List ℕ) → List Job → List Line
lines_said all jobs = map line_of_words (flat_map (job_lines all) jobs)

said-one : (all : List (List ℕ)) (j : Job) (jobs : List Job) → lines_said all (j ∷ jobs) ≡ job (j.name ∷ []) ∷ (map line_of_words (own_lines all j) ++ lines_said all jobs)
unfolding keyword_of
said-one all j jobs = ap (λ l. job (j.name ∷ []) ∷ l) (map-append line_of_words (own_lines all j) (flat_map (job_lines all) jobs))

said-below : (all : List (List ℕ)) (jobs : List Job) → own_below (lines_said all jobs) ≡ []
said-below all [] = refl
said-below all (j ∷ jobs) = ap own_below (said-one all j jobs)

said-jobs : (names : List (List ℕ)) (j : Job) (jobs : List Job) (own rest : List Line) → j ≡ job_of names j.name own → own_below (own ++ rest) ≡ own → jobs ≡ jobs_of (names ++ j.name ∷ []) (own ++ rest) → j ∷ jobs ≡ jobs_of names (job (j.name ∷ []) ∷ (own ++ rest))
said-jobs names j jobs own rest here below there =
    ap (λ x. x ∷ jobs) (here ∙ ap (job_of names j.name) (sym below)) ∙ ap (λ xs. job_of names j.name (own_below (own ++ rest)) ∷ xs) there

pub record AreRead (above : List Line) (names all : List (List ℕ)) (jobs : List Job) : Type 0 where
  pub good : AreGood above (lines_said all jobs)
  pub says : jobs ≡ jobs_of names (lines_said all jobs)

pub jobs-read : (above : List Line) (names all : List (List ℕ)) (jobs : List Job) → names_above above ≡ names → all ≡ names ++ names_of jobs → AreApart all → length all ≤ 64 → AreJobs (length names) jobs → AreRead above names all jobs
jobs-read above names all [] e whole apart few are = record { good = tt; says = refl }
jobs-read above names all (j ∷ jobs) e whole apart few are =
    let own = map line_of_words (own_lines all j) in
    let rest = lines_said all jobs in
    let top = job (j.name ∷ []) ∷ above in
    let goes = goes-job names all (names_of (j ∷ jobs)) j whole (apart-front names all (names_of (j ∷ jobs)) whole apart) are.0 in
    let at = job-at above names j.name e in
    let end = goes.at top at in
    let draft = subst (λ (o : List Line). IsDraft names o (ended_draft j)) (own-down top own goes.no_job) end.says in
    let read = job-read names (length names) j own are.0 draft in
    let size : length all ≡ length names + (1 + length (names_of jobs)) = ap length whole ∙ grind (arith, common_steps) in
    let longer : length (names ++ j.name ∷ []) ≡ suc (length names) = grind (arith, common_steps) in
    let next : names_above (down top own) ≡ names ++ j.name ∷ [] = names-down top own goes.no_job ∙ ap (λ n. n ++ j.name ∷ []) e in
    let there = jobs-read (down top own) (names ++ j.name ∷ []) all jobs next (whole ∙ sym (append_assoc names (j.name ∷ []) (names_of jobs))) apart few (subst (λ (n : ℕ). AreJobs n jobs) (sym longer) are.1) in
    let codes = job-codes above names j own rest e (omega arith) (name-new names all (names_of jobs) j.name whole apart) are.0 goes.no_job (said-below all jobs) read.codes in
    let said = said-one all j jobs in
    record {
      good = subst (λ (l : List Line). AreGood above l) (sym said) (codes, goes.good top at rest there.good);
      says = said-jobs names j jobs own rest read.says (own-up own rest goes.no_job ∙ (ap (λ o. own ++ o) (said-below all jobs) ∙ append-nil own)) (there.says ∙ sym (jobs-up (names ++ j.name ∷ []) own rest goes.no_job)) ∙ sym (ap (jobs_of names) said);
    }

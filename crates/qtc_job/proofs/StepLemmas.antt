-- What one line does to what was read so far.
use Rattle.std.proofs.Common.{◌≡◌, ℕ, ◌+◌, ◌<◌, ◌≤◌, min, Bool, true, false, ltb, leb, List, [], ◌∷◌, ◌++◌, length, Option, Some, None, is_some, Result, Ok, Err, refl, ap, sym, subst, ◌∙◌, append_assoc, append-nil, ⊎_elim, arith}
use Rattle.std.specs.Prelude.{◌&&◌, filter}
use Rattle.std.specs.List.{list_any}
use Rattle.std.proofs.lemmas.Bool.{cases_Bool, true≢false, ltb-true}
use Rattle.std.proofs.lemmas.Bool.Decides.{nat_tests}
use Rattle.std.proofs.lemmas.Grind.{common_steps}
use Rattle.qtc_job.specs.declared.codes.LineFault.{LineFault}
use Rattle.qtc_job.specs.declared.drafts.Draft.{Draft}
use Rattle.qtc_job_file.specs.declared.jobs.ChainOp.{ChainOp}
use Rattle.qtc_job_file.specs.declared.jobs.Job.{Job}
use Rattle.qtc_job_file.specs.declared.keywords.Keyword.{Keyword}
use Rattle.qtc_job_file.specs.declared.keywords.Keyword.TheVariants as word
use Rattle.qtc_job.specs.declared.marks.Marks.{Marks}
use Rattle.qtc_job.specs.declared.readers.Reader.{Reader}
use Rattle.qtc_job.specs.Answers.{least, IsLeast, IsFault, Gives}
use Rattle.qtc_job_file.specs.Canonical.{names_of}
use Rattle.qtc_job.specs.Codes.{where_, stands, job_codes, is_in_job, is_single, is_chain, own_above, own_below, own_codes, codes_on, above_codes, form_codes, is_repeated, names_above, earlier_names, name_of}
use Rattle.qtc_job.specs.Drafts.{IsDraft, IsOneOfJob, with_statement}
use Rattle.qtc_job.specs.Forms.{workers_form, directive_form}
use Rattle.qtc_job.specs.declared.statements.Statement.{Statement}
use Rattle.qtc_job.specs.declared.statements.Statement.TheVariants as statements
use Rattle.qtc_job.specs.Words.{words}
use Rattle.qtc_job.specs.Lines.{Line, line_of, line_of_words, too_long, silent, unknown, workers, job, says, begins, is_job, is_workers}
use Rattle.qtc_job.specs.Marks.{IsMarks}
use Rattle.qtc_job.specs.Meaning.{job_of, jobs_of, chain_of, number_at}
use Rattle.qtc_job.specs.Statements.{statement_of}
use Rattle.qtc_job.specs.Search.{found, first_bad, settled}
use Rattle.qtc_job.specs.Readers.{open_bad, open_jobs, IsDraftBelow, IsReader, IsStep, IsRefusal, IsClosed, IsUnmarked, IsJobRefusal, IsOpenAt, IsEndRefusal, Adds, Takes}
use Rattle.qtc_job.specs.declared.refusals.Refusal.{Refusal}
use Rattle.qtc_job.specs.declared.refusals.Refusal.TheVariants as refusal
use Rattle.qtc_job.proofs.DraftLemmas.{draft-silent, draft-says, stands-push_other}
use Rattle.qtc_job.proofs.LeastLemmas.{least-append}

pub chains-one : (own : List Line) → length (filter is_chain own) ≡ length (chain_of own)
chains-one [] = refl
chains-one (too_long ∷ own) = chains-one own
chains-one (silent ∷ own) = chains-one own
chains-one (unknown ∷ own) = chains-one own
chains-one (workers args ∷ own) = chains-one own
chains-one (job args ∷ own) = chains-one own
chains-one (says word.Then args ∷ own) = let e = chains-one own in grind (arith, common_steps)
chains-one (says word.OnFailed args ∷ own) = let e = chains-one own in grind (arith, common_steps)
chains-one (says word.OnCanceled args ∷ own) = let e = chains-one own in grind (arith, common_steps)
chains-one (says _ args ∷ own) = chains-one own

-- ---- the codes of a line of a job, by the lines above it

five : (late : Bool) → IsLeast (5 ∷ where_ late 17) 5
five true = record { is = refl; some = omega arith }
five false = record { is = refl; some = omega arith }

pub above-repeated : (args : List (List ℕ)) (above : List Line) (k : Keyword) → is_in_job above ≡ true → (is_single k && stands k (own_above above)) ≡ true → IsLeast (above_codes above (says k args)) 5
above-repeated args above k in_job both = rw (in_job, both) (five (is_chain (says k args) && leb 8 (length (filter is_chain (own_above above)))))

pub above-late : (args : List (List ℕ)) (above : List Line) (k : Keyword) (chain : List ChainOp) → is_in_job above ≡ true → (is_single k && stands k (own_above above)) ≡ false → is_chain (says k args) ≡ true → chain ≡ chain_of (own_above above) → 8 ≤ length chain → IsLeast (above_codes above (says k args)) 17
above-late args above k chain in_job both is_one e long =
    let size = chains-one (own_above above) ∙ ap length (sym e) in
    let late : leb 8 (length (filter is_chain (own_above above))) ≡ true = grind (arith, nat_tests) in
    rw (in_job, both, is_one, late) (record { is = refl; some = omega arith })

and-false : (b : Bool) → (b && false) ≡ false
and-false true = refl
and-false false = refl

none-late : (b : Bool) (n : ℕ) → (b ≡ true → n < 8) → (b && leb 8 n) ≡ false
none-late true n short = let s = short refl in let e : leb 8 n ≡ false = grind (arith, nat_tests) in e
none-late false n short = refl

pub above-none : (args : List (List ℕ)) (above : List Line) (k : Keyword) (chain : List ChainOp) → is_in_job above ≡ true → (is_single k && stands k (own_above above)) ≡ false → chain ≡ chain_of (own_above above) → (is_chain (says k args) ≡ true → length chain < 8) → above_codes above (says k args) ≡ []
above-none args above k chain in_job both e short =
    let size = chains-one (own_above above) ∙ ap length (sym e) in
    let late : (is_chain (says k args) && leb 8 (length (filter is_chain (own_above above)))) ≡ false = none-late (is_chain (says k args)) (length (filter is_chain (own_above above))) (λ c. let s = short c in omega arith) in
    rw (in_job, both, late) refl

-- ---- lines that say nothing of a job

draft-below_silent : (above : List Line) (line : ℕ) (jobs : List Job) (draft : Option Draft) → IsDraftBelow above line jobs draft → IsDraftBelow (silent ∷ above) (line + 1) jobs draft
draft-below_silent above line jobs None d = d
draft-below_silent above line jobs (Some draft) d = (d.0, d.1, draft-silent (names_of jobs) (own_above above) draft d.2, let less = d.3 in omega arith)

own-more : (above rest : List Line) (l : Line) → own_above above ++ (l ∷ rest) ≡ (own_above above ++ l ∷ []) ++ rest
own-more above rest l = sym (append_assoc (own_above above) (l ∷ []) rest)

bad-silent : (above : List Line) (line : ℕ) (draft : Option Draft) (rest : List Line) → open_bad draft above line (silent ∷ rest) ≡ open_bad draft (silent ∷ above) (line + 1) rest
bad-silent above line None rest = refl
bad-silent above line (Some draft) rest = ap (λ own. found (least (job_codes own)) draft.line (first_bad (silent ∷ above) (line + 1) rest)) (own-more above (own_below rest) silent)

jobs-silent : (above : List Line) (jobs : List Job) (draft : Option Draft) (rest : List Line) → open_jobs jobs draft above (silent ∷ rest) ≡ open_jobs jobs draft (silent ∷ above) rest
jobs-silent above jobs None rest = refl
jobs-silent above jobs (Some draft) rest = ap (λ own. jobs ++ job_of (names_of jobs) draft.name own ∷ jobs_of (names_of jobs ++ draft.name ∷ []) rest) (own-more above (own_below rest) silent)

pub reader-silent : (above : List Line) (line : ℕ) (r : Reader) → IsReader above line r → IsReader (silent ∷ above) (line + 1) r
reader-silent above line r is = record {
  workers = is.workers;
  names = is.names;
  draft = draft-below_silent above line r.jobs r.draft is.draft;
}

pub step-silent : (above : List Line) (line : ℕ) (r : Reader) → IsStep above line silent r r
step-silent above line r = record {
  bad = λ rest. bad-silent above line r.draft rest;
  workers = λ rest. refl;
  jobs = λ rest. jobs-silent above r.jobs r.draft rest;
}

-- ---- lines with a code

and-true : (b : Bool) → (b && true) ≡ b
and-true true = refl
and-true false = refl

found-some : (code line : ℕ) (later : Option (ℕ × ℕ)) → code < 100 → found code line later ≡ Some (line, code)
found-some code line later less = let e : ltb code 100 ≡ true = grind (arith, nat_tests) in rw e refl

settled-before : (job_code job_line code line : ℕ) → job_line < line → found job_code job_line (Some (line, code)) ≡ settled job_code job_line code line
settled-before job_code job_line code line less =
    let e : ltb job_line line ≡ true = grind (arith, nat_tests) in
    rw (e, and-true (ltb job_code 100)) refl

least-own : (above : List Line) (l : Line) (rest : List Line) (code : ℕ) → is_job l ≡ false → IsLeast (own_codes above l) code → least (codes_on above l rest) ≡ code
least-own above l rest code nj is = rw (nj, append-nil (own_codes above l)) is.is

first-here : (above : List Line) (line : ℕ) (l : Line) (rest : List Line) (code : ℕ) → is_job l ≡ false → IsLeast (own_codes above l) code → first_bad above line (l ∷ rest) ≡ Some (line, code)
first-here above line l rest code nj is =
    rw (least-own above l rest code nj is) (found-some code line (first_bad (l ∷ above) (line + 1) rest) is.some)

own-below_more : (l : Line) (rest : List Line) → is_job l ≡ false → own_below (l ∷ rest) ≡ l ∷ own_below rest
own-below_more l rest nj = rw nj refl

pub bad-here : (above : List Line) (line : ℕ) (l : Line) (draft : Option Draft) (code : ℕ) → draft ≡ None → is_job l ≡ false → IsLeast (own_codes above l) code → (rest : List Line) → open_bad draft above line (l ∷ rest) ≡ Some (line, code)
bad-here above line l draft code none nj is rest = rw none (first-here above line l rest code nj is)

pub bad-in : (above : List Line) (line : ℕ) (l : Line) (draft : Draft) (code : ℕ) → draft.line < line → is_job l ≡ false → IsLeast (own_codes above l) code → (rest : List Line)
    → open_bad (Some draft) above line (l ∷ rest) ≡ settled (least (job_codes ((own_above above ++ l ∷ []) ++ own_below rest))) draft.line code line
bad-in above line l draft code less nj is rest =
    let own : own_above above ++ own_below (l ∷ rest) ≡ (own_above above ++ l ∷ []) ++ own_below rest = ap (λ s. own_above above ++ s) (own-below_more l rest nj) ∙ own-more above (own_below rest) l in
    ap (λ o. found (least (job_codes o)) draft.line (first_bad above line (l ∷ rest))) own
    ∙ (ap (λ later. found (least (job_codes ((own_above above ++ l ∷ []) ++ own_below rest))) draft.line later) (first-here above line l rest code nj is)
    ∙ settled-before (least (job_codes ((own_above above ++ l ∷ []) ++ own_below rest))) draft.line code line less)

pub unmarked-job : (l : Line) → IsUnmarked l → is_job l ≡ false
unmarked-job too_long u = refl
unmarked-job silent u = refl
unmarked-job unknown u = refl
unmarked-job (workers args) u = refl
unmarked-job (job args) u = absurd u
unmarked-job (says k args) u = absurd u

unmarked-begins : (k : Keyword) (l : Line) → IsUnmarked l → begins k l ≡ false
unmarked-begins k too_long u = refl
unmarked-begins k silent u = refl
unmarked-begins k unknown u = refl
unmarked-begins k (workers args) u = refl
unmarked-begins k (job args) u = absurd u
unmarked-begins k (says d args) u = absurd u

pub marks-unmarked : (own : List Line) (l : Line) (marks : Marks) → IsUnmarked l → IsMarks own marks → IsMarks (own ++ l ∷ []) marks
marks-unmarked own l marks u m = record {
  input = m.input ∙ sym (stands-push_other word.Input own l (unmarked-begins word.Input l u));
  map = m.map ∙ sym (stands-push_other word.Map own l (unmarked-begins word.Map l u));
  filter = m.filter ∙ sym (stands-push_other word.Filter own l (unmarked-begins word.Filter l u));
  reduce = m.reduce ∙ sym (stands-push_other word.Reduce own l (unmarked-begins word.Reduce l u));
  order = m.order ∙ sym (stands-push_other word.Order own l (unmarked-begins word.Order l u));
}

-- ---- good lines

first-good : (above : List Line) (line : ℕ) (l : Line) (rest : List Line) → is_job l ≡ false → own_codes above l ≡ [] → first_bad above line (l ∷ rest) ≡ first_bad (l ∷ above) (line + 1) rest
first-good above line l rest nj none = rw (nj, none) refl

append-nil_right : (xs ys : List ℕ) → xs ++ ys ≡ [] → ys ≡ []
append-nil_right [] ys e = e
append-nil_right (x ∷ xs) ys e = cc

none-two : (a b : Bool) → where_ a 5 ++ (where_ b 16 ++ []) ≡ [] → (a ≡ false) × (b ≡ false)
none-two true b e = cc
none-two false true e = cc
none-two false false e = (refl, refl)

below-workers : (above : List Line) (line : ℕ) (args : List (List ℕ)) (jobs : List Job) (draft : Option Draft) → is_in_job above ≡ false → IsDraftBelow above line jobs draft → IsDraftBelow (workers args ∷ above) (line + 1) jobs draft
below-workers above line args jobs None out d = d
below-workers above line args jobs (Some draft) out d = absurd (true≢false (sym d.0 ∙ out))

bad-workers : (above : List Line) (line : ℕ) (args : List (List ℕ)) (jobs : List Job) (draft : Option Draft) (rest : List Line) → is_in_job above ≡ false → IsDraftBelow above line jobs draft → own_codes above (workers args) ≡ [] → open_bad draft above line (workers args ∷ rest) ≡ open_bad draft (workers args ∷ above) (line + 1) rest
bad-workers above line args jobs None rest out d none = first-good above line (workers args) rest refl none
bad-workers above line args jobs (Some draft) rest out d none = absurd (true≢false (sym d.0 ∙ out))

jobs-workers : (above : List Line) (line : ℕ) (args : List (List ℕ)) (jobs : List Job) (draft : Option Draft) (rest : List Line) → is_in_job above ≡ false → IsDraftBelow above line jobs draft → open_jobs jobs draft above (workers args ∷ rest) ≡ open_jobs jobs draft (workers args ∷ above) rest
jobs-workers above line args jobs None rest out d = refl
jobs-workers above line args jobs (Some draft) rest out d = absurd (true≢false (sym d.0 ∙ out))

nothing-is : (o : Option ℕ) → is_some o ≡ false → o ≡ None
nothing-is None e = refl
nothing-is (Some n) e = cc

pub workers-good : (above : List Line) (line : ℕ) (args : List (List ℕ)) (r new : Reader) (count : ℕ) → IsReader above line r → own_codes above (workers args) ≡ [] → count ≡ number_at args 0 → new.workers ≡ Some count → new.jobs ≡ r.jobs → new.draft ≡ r.draft → IsReader (workers args ∷ above) (line + 1) new × IsStep above line (workers args) r new
workers-good above line args r new count is none meant ew ej ed =
    let free = none-two (list_any is_workers above) (is_in_job above) (append-nil_right (form_codes [] (workers_form args)) (above_codes above (workers args)) none) in
    let unset = nothing-is r.workers (sym is.workers ∙ free.0) in (
      record {
        workers = rw ew refl;
        names = rw (ej, ed) is.names;
        draft = rw (ej, ed) (below-workers above line args r.jobs r.draft free.1 is.draft);
      },
      record {
        bad = λ rest. rw ed (bad-workers above line args r.jobs r.draft rest free.1 is.draft none);
        workers = λ rest. rw (unset, ew) (sym meant);
        jobs = λ rest. rw (ej, ed) (jobs-workers above line args r.jobs r.draft rest free.1 is.draft);
      },
    )

-- a statement more in a job
pub draft-line : (draft : Draft) (statement : Statement) → ((with_statement draft statement).line ≡ draft.line) × ((with_statement draft statement).name ≡ draft.name)
draft-line draft (statements.Input input) = (refl, refl)
draft-line draft (statements.Map op) = (refl, refl)
draft-line draft (statements.Filter op) = (refl, refl)
draft-line draft (statements.Reduce fold) = (refl, refl)
draft-line draft (statements.Order ordered) = (refl, refl)
draft-line draft (statements.Blocks blocks) = (refl, refl)
draft-line draft (statements.Priority value) = (refl, refl)
draft-line draft (statements.CancelAfter count) = (refl, refl)
draft-line draft (statements.SuspendAfter count) = (refl, refl)
draft-line draft statements.Watch = (refl, refl)
draft-line draft (statements.Chain step) = (refl, refl)

none-five : (a : Bool) (more : List ℕ) → where_ a 5 ++ more ≡ [] → a ≡ false
none-five true more e = cc
none-five false more e = refl

pub says-good : (above : List Line) (line : ℕ) (k : Keyword) (args : List (List ℕ)) (r new : Reader) (draft after : Draft) → IsOneOfJob k → IsReader above line r → r.draft ≡ Some draft → own_codes above (says k args) ≡ [] → after ≡ with_statement draft (statement_of (names_of r.jobs) k args) → new.workers ≡ r.workers → new.jobs ≡ r.jobs → new.draft ≡ Some after → IsReader (says k args ∷ above) (line + 1) new × IsStep above line (says k args) r new
says-good above line k args r new draft after one is here none grown ew ej ed =
    let d = rw here at is.draft in
    let lines = draft-line draft (statement_of (names_of r.jobs) k args) in
    let same_line : after.line ≡ draft.line = ap (λ (x : Draft). x.line) grown ∙ lines.0 in
    let same_name : after.name ≡ draft.name = ap (λ (x : Draft). x.name) grown ∙ lines.1 in
    let less = d.3 in
    let five_none = none-five (is_repeated above (says k args)) _ (append-nil_right (form_codes (earlier_names above) (directive_form k args)) (above_codes above (says k args)) none) in
    let single : (is_single k && stands k (own_above above)) ≡ false = rw d.0 at five_none in
    let more = draft-says (names_of r.jobs) (own_above above) draft k args one d.2 single in (
      record {
        workers = rw ew is.workers;
        names = rw (ej, ed, same_name) (rw here at is.names);
        draft = rw (ej, ed) (d.0, d.1, subst (λ (x : Draft). IsDraft (names_of r.jobs) (own_above above ++ says k args ∷ []) x) (sym grown) more, omega arith);
      },
      record {
        bad = λ rest. rw (here, ed, same_line) (ap (λ own. found (least (job_codes own)) draft.line (first_bad above line (says k args ∷ rest))) (own-more above (own_below rest) (says k args))
            ∙ ap (λ later. found (least (job_codes ((own_above above ++ says k args ∷ []) ++ own_below rest))) draft.line later) (first-good above line (says k args) rest refl none));
        workers = λ rest. rw ew refl;
        jobs = λ rest. rw (here, ej, ed, same_name) (ap (λ own. r.jobs ++ job_of (names_of r.jobs) draft.name own ∷ jobs_of (names_of r.jobs ++ draft.name ∷ []) rest) (own-more above (own_below rest) (says k args)));
      },
    )

-- ---- job lines

pub close-bad : (above : List Line) (line : ℕ) (draft : Draft) (args : List (List ℕ)) (code : ℕ) → IsLeast (job_codes (own_above above)) code → (rest : List Line) → open_bad (Some draft) above line (job args ∷ rest) ≡ Some (draft.line, code)
close-bad above line draft args code is rest =
    rw (append-nil (own_above above), is.is) (found-some code draft.line (first_bad above line (job args ∷ rest)) is.some)

names-push : (jobs : List Job) (j : Job) → names_of (jobs ++ j ∷ []) ≡ names_of jobs ++ j.name ∷ []
names-push [] j = refl
names-push (x ∷ jobs) j = ap (λ s. x.name ∷ s) (names-push jobs j)

pub close-none : (above : List Line) (line : ℕ) (r new : Reader) → IsReader above line r → r.draft ≡ None → new.workers ≡ r.workers → new.jobs ≡ r.jobs → new.draft ≡ None → IsClosed above line r new
close-none above line r new is here ew ej ed = record {
  workers = ew;
  seen = rw ew is.workers;
  names = rw ej (rw (here, append-nil (names_of r.jobs)) at is.names);
  draft = ed;
  bad = λ args rest. rw here refl;
  jobs = λ args rest. rw (here, ej) refl;
  end_bad = rw here refl;
  end_jobs = rw (here, ej) (append-nil r.jobs);
}

pub close-good : (above : List Line) (line : ℕ) (r new : Reader) (draft : Draft) (j : Job) → IsReader above line r → r.draft ≡ Some draft → job_codes (own_above above) ≡ [] → j ≡ job_of (names_of r.jobs) draft.name (own_above above) → new.workers ≡ r.workers → new.jobs ≡ r.jobs ++ j ∷ [] → new.draft ≡ None → IsClosed above line r new
close-good above line r new draft j is here none e ew ej ed =
    let named : j.name ≡ draft.name = ap (λ (x : Job). x.name) e in
    let names : names_of new.jobs ≡ names_of r.jobs ++ draft.name ∷ [] = ap names_of ej ∙ (names-push r.jobs j ∙ ap (λ n. names_of r.jobs ++ n ∷ []) named) in
    record {
      workers = ew;
      seen = rw ew is.workers;
      names = rw names (rw here at is.names);
      draft = ed;
      bad = λ args rest. rw (here, append-nil (own_above above), none) refl;
      jobs = λ args rest. rw (here, append-nil (own_above above), names, ej) (ap (λ x. r.jobs ++ x ∷ jobs_of (names_of r.jobs ++ draft.name ∷ []) (job args ∷ rest)) (sym e) ∙ sym (append_assoc r.jobs (j ∷ []) (jobs_of (names_of r.jobs ++ draft.name ∷ []) (job args ∷ rest))));
      end_bad = rw (here, append-nil (own_above above), none) refl;
      end_jobs = rw (here, append-nil (own_above above), ej) (ap (λ x. r.jobs ++ x ∷ []) (sym e));
    }

pub job-refusal : (above : List Line) (line : ℕ) (draft : Draft) (args : List (List ℕ)) (r : Refusal) → IsJobRefusal (job_codes (own_above above)) draft.line r → IsRefusal above line (job args) (Some draft) r
job-refusal above line draft args refusal.Memory is = tt
job-refusal above line draft args (refusal.Bad bad) is = λ rest. close-bad above line draft args bad.code is.1 rest ∙ ap (λ l. Some (l, bad.code)) (sym is.0)
job-refusal above line draft args (refusal.InJob job_line marks code) is = absurd is

settled-here : (job_code code line : ℕ) → code < 100 → Some (line, min code job_code) ≡ settled job_code line code line
settled-here job_code code line small =
    let same : ltb line line ≡ false = grind (arith, nat_tests) in
    ⊎_elim
    (λ (under : ltb job_code code ≡ true).
    let lower : job_code < code = ltb-true job_code code under in
    let real : ltb job_code 100 ≡ true = grind (arith, nat_tests) in
    let least_is : min code job_code ≡ job_code = omega arith in
    rw (same, under, real, least_is) refl)
    (λ (over : ltb job_code code ≡ false).
    let least_is : min code job_code ≡ code = grind (arith, nat_tests) in
    rw (same, over, and-false (ltb job_code 100), least_is) refl)
    (cases_Bool (ltb job_code code))

first-job : (above : List Line) (line : ℕ) (args : List (List ℕ)) (rest : List Line) (code : ℕ) → IsLeast (own_codes above (job args)) code → first_bad above line (job args ∷ rest) ≡ settled (least (job_codes (own_below rest))) line code line
first-job above line args rest code is =
    let both = least-append (own_codes above (job args)) (job_codes (own_below rest)) in
    let own = is.is in
    let some = is.some in
    let less : least (codes_on above (job args) rest) ≡ min code (least (job_codes (own_below rest))) = omega arith in
    rw less (found-some (min code (least (job_codes (own_below rest)))) line (first_bad (job args ∷ above) (line + 1) rest) (omega arith)
    ∙ settled-here (least (job_codes (own_below rest))) code line some)

nameless_at : (b : Bool) → IsLeast (2 ∷ where_ b 12 ++ []) 2
nameless_at true = record { is = refl; some = omega arith }
nameless_at false = record { is = refl; some = omega arith }

pub least-nameless : (above : List Line) → IsLeast (own_codes above (job [])) 2
least-nameless above = nameless_at (leb 64 (length (names_above above)))

pub first-open : (above : List Line) (line : ℕ) (args : List (List ℕ)) (draft : Option Draft) (code : ℕ) → IsOpenAt above line draft (job args) → IsLeast (own_codes above (job args)) code → (rest : List Line) → open_bad draft above line (job args ∷ rest) ≡ settled (least (job_codes ([] ++ own_below rest))) line code line
first-open above line args draft code at is rest = at rest ∙ first-job above line args rest code is

pub job-good : (above : List Line) (line : ℕ) (args : List (List ℕ)) (old mid new : Reader) (draft : Draft) → IsClosed above line old mid → own_codes above (job args) ≡ [] → draft.line ≡ line → draft.name ≡ name_of args → ((names : List (List ℕ)) → IsDraft names [] draft) → new.workers ≡ mid.workers → new.jobs ≡ mid.jobs → new.draft ≡ Some draft → IsReader (job args ∷ above) (line + 1) new × IsStep above line (job args) old new
job-good above line args old mid new draft cl none el en fresh ew ej ed = (
  record {
    workers = rw ew cl.seen;
    names = rw (ej, ed, en) (ap (λ n. n ++ name_of args ∷ []) cl.names);
    draft = rw (ej, ed) (refl, cl.names, fresh (names_of mid.jobs), omega arith);
  },
  record {
    bad = λ rest. rw (ed, el) (cl.bad args rest ∙ rw none refl);
    workers = λ rest. rw (ew, cl.workers) refl;
    jobs = λ rest. rw (ej, ed, en) (cl.jobs args rest);
  },
)

pub above-misplaced : (args : List (List ℕ)) (above : List Line) (k : Keyword) → is_in_job above ≡ false → above_codes above (says k args) ≡ 16 ∷ []
above-misplaced args above k out = rw (out, and-false (is_single k), and-false (is_chain (says k args))) refl

pub is-sixteen : IsLeast (16 ∷ []) 16
is-sixteen = record { is = refl; some = omega arith }

pub given-names : (earlier names args : List (List ℕ)) (k : Keyword) (r : Result Statement LineFault) → earlier ≡ names → Gives (form_codes names (directive_form k args)) (statement_of names k args) r → Gives (form_codes earlier (directive_form k args)) (statement_of earlier k args) r
given-names earlier names args k r e given = subst (λ (n : List (List ℕ)). Gives (form_codes n (directive_form k args)) (statement_of n k args) r) (sym e) given

pub misplaced-fault : (above : List Line) (k : Keyword) (args : List (List ℕ)) (fault : LineFault) → is_in_job above ≡ false → IsFault (form_codes (earlier_names above) (directive_form k args) ++ 16 ∷ []) fault → IsFault (own_codes above (says k args)) fault
misplaced-fault above k args fault out f = subst (λ (l : List ℕ). IsFault (form_codes (earlier_names above) (directive_form k args) ++ l) fault) (sym (above-misplaced args above k out)) f

pub adds-takes : (above : List Line) (line : ℕ) (k : Keyword) (args : List (List ℕ)) (r new : Reader) (draft after : Draft) (result : Result (Unit {0}) Refusal) → IsOneOfJob k → IsReader above line r → r.draft ≡ Some draft → earlier_names above ≡ names_of r.jobs → new.workers ≡ r.workers → new.jobs ≡ r.jobs → new.draft ≡ Some after → Adds above line k args draft after result → Takes above line (says k args) r new result
adds-takes above line k args r new draft after (Ok done) one is here names ew ej ed a =
    let grown : after ≡ with_statement draft (statement_of (names_of r.jobs) k args) = a.1 ∙ ap (λ (n : List (List ℕ)). with_statement draft (statement_of n k args)) names in
    says-good above line k args r new draft after one is here a.0 grown ew ej ed
adds-takes above line k args r new draft after (Err refused) one is here names ew ej ed a =
    subst (λ (o : Option Draft). IsRefusal above line (says k args) o refused) (sym here) a

pub end-refusal : (above : List Line) (line : ℕ) (draft : Draft) (r : Refusal) → IsJobRefusal (job_codes (own_above above)) draft.line r → IsEndRefusal above line (Some draft) r
end-refusal above line draft refusal.Memory is = tt
end-refusal above line draft (refusal.Bad bad) is =
    let least_is = is.1.is in
    let some = is.1.some in
    rw (append-nil (own_above above), least_is) (found-some bad.code draft.line None some ∙ ap (λ l. Some (l, bad.code)) (sym is.0))
end-refusal above line draft (refusal.InJob job_line marks code) is = absurd is

-- ---- a line of bytes

pub line-long : (line : List ℕ) → 4096 < length line → line_of line ≡ too_long
line-long line long = let e : ltb 4096 (length line) ≡ true = grind (arith, nat_tests) in rw e refl

pub line-short : (line : List ℕ) → length line ≤ 4096 → line_of line ≡ line_of_words (words line)
line-short line short = let e : ltb 4096 (length line) ≡ false = grind (arith, nat_tests) in rw e refl

pub is-eleven : IsLeast (11 ∷ []) 11
is-eleven = record { is = refl; some = omega arith }

pub is-unknown : IsLeast (1 ∷ []) 1
is-unknown = record { is = refl; some = omega arith }

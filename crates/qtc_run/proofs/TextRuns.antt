-- Runs of jobs over texts: in the order of the file, with the items of the texts.
use Rattle.std.proofs.Common.{◌≡◌, ℕ, zero, suc, ◌+◌, ◌<◌, ◌≤◌, inl, inr, Bool, true, false, eqb, List, [], ◌∷◌, ◌++◌, length, get_or, take, drop, replicate, Some, refl, ap, sym, subst, ◌∙◌, append_assoc, append-nil, length-append, arith}
use Rattle.std.specs.Prelude.{All, filter, slice_get, slice_index}
use Rattle.std.specs.List.{flat_map, range_with_len}
use Rattle.std.proofs.lemmas.Bool.{and_parts}
use Rattle.std.proofs.lemmas.Bool.Decides.{nat_tests}
use Rattle.std.proofs.lemmas.Grind.{flat_map-append}
use Rattle.std.proofs.lemmas.List.{get_or-map, take-append-drop}
use Rattle.std.proofs.lemmas.List.Elements.{All-nil, All-cons, All-head, All-tail}
use Rattle.std.proofs.lemmas.List.FromFn.{length-range_with_len, get_or-range_with_len}
use Rattle.std.proofs.lemmas.List.Sums.{sum_by-append}
use Rattle.std.proofs.lemmas.Option.{slice_get-get_or, slice_get_within}
use Rattle.qtc_base.specs.Items.{PassesLimit, total_bytes}
use Rattle.qtc_future.specs.declared.replies.Outcome.{Outcome}
use Rattle.qtc_job_file.specs.declared.jobs.Job.{Job}
use Rattle.qtc_kernel.specs.Workload.{bad_indexes}
use Rattle.qtc_run.specs.GoodRuns.{AreGood, IsGoodOver}
use Rattle.qtc_run.specs.Laws.{RunnableRunsAreOverTexts}
use Rattle.qtc_run.specs.Runnable.{are_runnable, is_runnable}
use Rattle.qtc_run.specs.RunOrder.{places_in, round_at, rounds_below, rounds_of, run_order}
use Rattle.qtc_run.specs.Sources.{Source, Texts, given, items_in, items_of, items_of_all, outcomes_of, source_of, work_over}
use Rattle.qtc_run.specs.Sums.{Fits, PassesWith, items_at, items_of_first, items_of_run, sources_of}
use Rattle.qtc_run.specs.declared.reports.JobReport.{JobReport}
use Rattle.qtc_run.proofs.Plain.{bad-alone, round-zero, runnable-plain, source-given}

-- ---- the order

-- each round is 0
zeros-below : (above : List ℕ) (jobs : List Job) → are_runnable jobs ≡ true → rounds_below above jobs ≡ above ++ replicate (length jobs) 0
zeros-below above [] ready = sym (append-nil above)
zeros-below above (job ∷ jobs) ready =
    let parts = and_parts _ _ ready in
    let here = round-zero above job.input (runnable-plain job parts.0).reads in
    ap (λ round. rounds_below (above ++ round ∷ []) jobs) here
    ∙ (zeros-below (above ++ 0 ∷ []) jobs parts.1 ∙ append_assoc above (0 ∷ []) (replicate (length jobs) 0))

zeros : (jobs : List Job) → are_runnable jobs ≡ true → rounds_of jobs ≡ replicate (length jobs) 0
zeros jobs ready = zeros-below [] jobs ready

zero-at : (n place : ℕ) → slice_index (replicate n 0) place ≡ 0
zero-at zero place = refl
zero-at (suc n) zero = refl
zero-at (suc n) (suc place) = zero-at n place

-- a filter that all pass, and one that none passes
all-pass : (test : ℕ → Bool) (places : List ℕ) → ((place : ℕ) → test place ≡ true) → filter test places ≡ places
all-pass test [] passes = refl
all-pass test (place ∷ places) passes = rw (passes place) (ap (λ ps. place ∷ ps) (all-pass test places passes))

none-pass : (test : ℕ → Bool) (places : List ℕ) → ((place : ℕ) → test place ≡ false) → filter test places ≡ []
none-pass test [] fails = refl
none-pass test (place ∷ places) fails = rw (fails place) (none-pass test places fails)

length-zeros : (n : ℕ) → length (replicate {A = ℕ} n 0) ≡ n
length-zeros zero = refl
length-zeros (suc n) = let there = length-zeros n in omega arith

in-first : (n : ℕ) → places_in (replicate n 0) 0 ≡ range_with_len 0 n
in-first n =
    all-pass (λ place. eqb (slice_index (replicate n 0) place) 0) (range_with_len 0 (length (replicate n 0))) (λ place. ap (λ round. eqb round 0) (zero-at n place))
    ∙ ap (range_with_len 0) (length-zeros n)

not-zero : (round : ℕ) → 1 ≤ round → eqb 0 round ≡ false
not-zero round some = grind (arith, nat_tests)

in-later : (n round : ℕ) → 1 ≤ round → places_in (replicate n 0) round ≡ []
in-later n round some =
    none-pass (λ place. eqb (slice_index (replicate n 0) place) round) (range_with_len 0 (length (replicate n 0))) (λ place. ap (λ zero. eqb zero round) (zero-at n place) ∙ not-zero round some)

in-none : (n from count : ℕ) → 1 ≤ from → flat_map (places_in (replicate n 0)) (range_with_len from count) ≡ []
in-none n from zero some = refl
in-none n from (suc count) some = rw (in-later n from some) (in-none n (from + 1) count (omega arith))

in-order : (n : ℕ) → flat_map (places_in (replicate n 0)) (range_with_len 0 n) ≡ range_with_len 0 n
in-order zero = refl
in-order (suc n) =
    ap (λ first. first ++ flat_map (places_in (replicate (suc n) 0)) (range_with_len (0 + 1) n)) (in-first (suc n))
    ∙ (ap (λ rest. range_with_len 0 (suc n) ++ rest) (in-none (suc n) (0 + 1) n (omega arith)) ∙ append-nil (range_with_len 0 (suc n)))

pub file-order : (jobs : List Job) → are_runnable jobs ≡ true → run_order jobs ≡ range_with_len 0 (length jobs)
file-order jobs ready = ap (λ rounds. flat_map (places_in rounds) (range_with_len 0 (length jobs))) (zeros jobs ready) ∙ in-order (length jobs)

-- ---- the items

take-range : (count from n : ℕ) → count ≤ n → take count (range_with_len from n) ≡ range_with_len from count
take-range zero from n few = refl
take-range (suc count) from zero few = absurd (omega arith)
take-range (suc count) from (suc n) few = ap (λ rest. from ∷ rest) (take-range count (from + 1) n (omega arith))

-- what is gathered by the places of a list is gathered from the list
by-places : {A X : Type 0} (f : ℕ → List X) (g : A → List X) (xs : List A) (from count : ℕ) → count ≤ length xs → ((k : ℕ) (d : A) → k < length xs → f (from + k) ≡ g (get_or xs k d)) → flat_map f (range_with_len from count) ≡ flat_map g (take count xs)
by-places f g xs from zero few is = refl
by-places f g [] from (suc count) few is = absurd (omega arith)
by-places {A = A} f g (x ∷ xs) from (suc count) few is =
    let start : from + 0 ≡ from = omega arith in
    let here : f from ≡ g x = subst (λ n. f n ≡ g x) start (is 0 x (omega arith)) in
    let later : (k : ℕ) (d : A) → k < length xs → f (from + 1 + k) ≡ g (get_or xs k d) = λ k d within.
    let same : from + suc k ≡ from + 1 + k = omega arith in
    subst (λ n. f n ≡ g (get_or xs k d)) same (is (suc k) d (omega arith)) in
    ap (λ first. first ++ flat_map f (range_with_len (from + 1) count)) here ∙ ap (λ rest. g x ++ rest) (by-places f g xs (from + 1) count (omega arith) later)

ready-at : (jobs : List Job) (place : ℕ) (d : Job) → are_runnable jobs ≡ true → place < length jobs → is_runnable (get_or jobs place d) ≡ true
ready-at [] place d ready within = absurd (omega arith)
ready-at (job ∷ jobs) zero d ready within = (and_parts _ _ ready).0
ready-at (job ∷ jobs) (suc place) d ready within = ready-at jobs place d (and_parts _ _ ready).1 (omega arith)

source-items : (texts : Texts) (jobs : List Job) (outcomes : List (Outcome (List ℕ))) (place : ℕ) (d : Job) → are_runnable jobs ≡ true → place < length jobs → items_at (sources_of texts jobs outcomes) place ≡ items_of texts (get_or jobs place d).input
source-items texts jobs outcomes place d ready within =
    let of : Job → Source = λ (job : Job). source_of texts jobs outcomes job.input in
    ap items_in (get_or-map of jobs place d (given []) within
    ∙ source-given texts jobs outcomes (get_or jobs place d).input (runnable-plain (get_or jobs place d) (ready-at jobs place d ready within)).reads)

pub first-items : (texts : Texts) (jobs : List Job) (outcomes : List (Outcome (List ℕ))) (count : ℕ) → are_runnable jobs ≡ true → count ≤ length jobs → items_of_first count texts jobs outcomes ≡ items_of_all texts (take count jobs)
first-items texts jobs outcomes count ready few =
    let at : ℕ → List (List ℕ) = items_at (sources_of texts jobs outcomes) in
    ap (λ order. flat_map at (take count order)) (file-order jobs ready)
    ∙ (ap (flat_map at) (take-range count 0 (length jobs) few)
    ∙ by-places at (λ (job : Job). items_of texts job.input) jobs 0 count few (λ k d within.
    let same : k ≡ 0 + k = omega arith in
    subst (λ n. at n ≡ items_of texts (get_or jobs k d).input) same (source-items texts jobs outcomes k d ready within)))

take-all : {X : Type 0} (xs : List X) → take (length xs) xs ≡ xs
take-all [] = refl
take-all (x ∷ xs) = ap (λ rest. x ∷ rest) (take-all xs)

pub run-items : (texts : Texts) (jobs : List Job) (outcomes : List (Outcome (List ℕ))) → are_runnable jobs ≡ true → items_of_run texts jobs outcomes ≡ items_of_all texts jobs
run-items texts jobs outcomes ready =
    let at : ℕ → List (List ℕ) = items_at (sources_of texts jobs outcomes) in
    ap (flat_map at) (file-order jobs ready ∙ sym (take-range (length jobs) 0 (length jobs) (omega arith)))
    ∙ (ap (λ order. flat_map at (take (length jobs) order)) (sym (file-order jobs ready))
    ∙ (first-items texts jobs outcomes (length jobs) ready (omega arith) ∙ ap (items_of_all texts) (take-all jobs)))

-- ---- the limits

-- items that pass a limit pass it with others behind them
passes-more : (items more : List (List ℕ)) → PassesLimit items → PassesLimit (items ++ more)
passes-more items more passes =
    let count = length-append items more in
    let size = sum_by-append length items more in
    elim passes [
      | inl many ↦ inl (omega (arith, count))
      | inr large ↦ inr (omega (arith, size))
    ]

front-passes : (texts : Texts) (jobs : List Job) (count : ℕ) → PassesLimit (items_of_all texts (take count jobs)) → PassesLimit (items_of_all texts jobs)
front-passes texts jobs count passes =
    let whole = ap (items_of_all texts) (sym (take-append-drop count jobs)) ∙ flat_map-append (λ (job : Job). items_of texts job.input) (take count jobs) (drop count jobs) in
    subst PassesLimit (sym whole) (passes-more (items_of_all texts (take count jobs)) (items_of_all texts (drop count jobs)) passes)

pub texts-fit : (texts : Texts) (jobs : List Job) → are_runnable jobs ≡ true → (PassesLimit (items_of_all texts jobs) → ⊥) → Fits texts jobs
texts-fit texts jobs ready fits place items bytes is =
    let order = subst (λ order. slice_get order is.before ≡ Some place) (file-order jobs ready) is.place_is in
    let inside = slice_get_within (range_with_len 0 (length jobs)) is.before place order in
    let long = length-range_with_len 0 (length jobs) in
    fits (front-passes texts jobs (is.before + 1) (subst PassesLimit (first-items texts jobs (outcomes_of is.earlier) (is.before + 1) ready (omega arith)) is.passes))

nothing-passes : PassesLimit [] → ⊥
nothing-passes passes =
    elim passes [
      | inl many ↦ omega arith
      | inr large ↦ omega arith
    ]

none-before : (texts : Texts) (jobs : List Job) (place : ℕ) → ((earlier : ℕ) → earlier < place → PassesLimit (items_of_all texts (take (earlier + 1) jobs)) → ⊥) → (count : ℕ) → count ≤ place → PassesLimit (items_of_all texts (take count jobs)) → ⊥
none-before texts jobs place first zero few passes = nothing-passes passes
none-before texts jobs place first (suc earlier) few passes =
    let next : earlier + 1 ≡ suc earlier = omega arith in
    first earlier (omega arith) (subst (λ count. PassesLimit (items_of_all texts (take count jobs))) (sym next) passes)

-- the job at a place is the first with which the items pass a limit
pub passes-with : (texts : Texts) (jobs : List Job) (place items bytes : ℕ) → are_runnable jobs ≡ true → place < length jobs → PassesLimit (items_of_all texts (take (place + 1) jobs)) → ((earlier : ℕ) → earlier < place → PassesLimit (items_of_all texts (take (earlier + 1) jobs)) → ⊥)
    → items ≡ length (items_of_all texts (take (place + 1) jobs)) → bytes ≡ total_bytes (items_of_all texts (take (place + 1) jobs)) → PassesWith texts jobs place items bytes
passes-with texts jobs place items bytes ready within passes first items_are bytes_are =
    let first_of : (count : ℕ) → count ≤ length jobs → items_of_first count texts jobs [] ≡ items_of_all texts (take count jobs) = λ count few. first-items texts jobs [] count ready few in
    let itself : 0 + place ≡ place = omega arith in
    let round : round_at jobs place ≡ 0 = ap (λ rounds. slice_index rounds place) (zeros jobs ready) ∙ zero-at (length jobs) place in
    record {
      earlier = [];
      are_reports = record { each = λ other d e _ lower. absurd (omega (arith, lower, round)) };
      before = place;
      place_is = ap (λ order. slice_get order place) (file-order jobs ready) ∙ (slice_get-get_or (range_with_len 0 (length jobs)) place 0 (omega (arith, length-range_with_len 0 (length jobs))) ∙ ap Some (get_or-range_with_len 0 (length jobs) place 0 within ∙ itself));
      passes = subst PassesLimit (sym (first_of (place + 1) (omega arith))) passes;
      first = λ count fewer before. none-before texts jobs place first count (omega arith) (subst PassesLimit (first_of count (omega arith)) before);
      items_are = items_are ∙ ap length (sym (first_of (place + 1) (omega arith)));
      bytes_are = bytes_are ∙ ap total_bytes (sym (first_of (place + 1) (omega arith)));
    }

-- ---- runs that nothing stops

one-good : (texts : Texts) (jobs : List Job) (reports : List JobReport) (job : Job) → is_runnable job ≡ true → bad_indexes (work_over job (items_of texts job.input)) ≡ [] → IsGoodOver job (source_of texts jobs (outcomes_of reports) job.input)
one-good texts jobs reports job ready none =
    let plain = runnable-plain job ready in
    subst (IsGoodOver job) (sym (source-given texts jobs (outcomes_of reports) job.input plain.reads))
    (record { unfailing = bad-alone job (items_of texts job.input) plain.fold ∙ none; unreached = inl plain.cancel_after })

each-good : (texts : Texts) (jobs : List Job) (reports : List JobReport) (some : List Job) → are_runnable some ≡ true → All (λ (job : Job). bad_indexes (work_over job (items_of texts job.input)) ≡ []) some → All (λ (job : Job). IsGoodOver job (source_of texts jobs (outcomes_of reports) job.input)) some
each-good texts jobs reports [] ready good = All-nil (λ (job : Job). IsGoodOver job (source_of texts jobs (outcomes_of reports) job.input))
each-good texts jobs reports (job ∷ some) ready good =
    let parts = and_parts _ _ ready in
    All-cons (λ (job : Job). IsGoodOver job (source_of texts jobs (outcomes_of reports) job.input)) job some
    (one-good texts jobs reports job parts.0 (All-head (λ (job : Job). bad_indexes (work_over job (items_of texts job.input)) ≡ []) job some good))
    (each-good texts jobs reports some parts.1 (All-tail (λ (job : Job). bad_indexes (work_over job (items_of texts job.input)) ≡ []) job some good))

pub are-good : (texts : Texts) (jobs : List Job) → are_runnable jobs ≡ true → All (λ (job : Job). bad_indexes (work_over job (items_of texts job.input)) ≡ []) jobs → AreGood texts jobs
are-good texts jobs ready good reports are = each-good texts jobs reports jobs ready good

pub over-texts : RunnableRunsAreOverTexts
over-texts texts jobs ready = record {
  order = file-order jobs ready;
  items = λ outcomes count few. first-items texts jobs outcomes count ready few;
  whole = λ outcomes. run-items texts jobs outcomes ready;
  fits = texts-fit texts jobs ready;
  good = are-good texts jobs ready;
}

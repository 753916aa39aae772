-- The sequential answer, item by item.
use Rattle.std.proofs.Common.{◌≡◌, ℕ, zero, suc, ◌+◌, ◌<◌, Bool, true, false, cond, eqb, ltb, List, [], ◌∷◌, ◌++◌, length, get_or, Option, Some, None, refl, ap, sym, subst, ◌∙◌, ⊎_elim, arith}
use Rattle.std.specs.Prelude.{Contains}
use Rattle.std.specs.List.{enumerate_from, filter_map, range_with_len}
use Rattle.std.proofs.lemmas.Bool.{cases_Bool}
use Rattle.std.proofs.lemmas.Bool.Decides.{nat_tests}
use Rattle.std.proofs.lemmas.List.Elements.{All-from_get_or}
use Rattle.std.proofs.lemmas.List.Sums.{sum_by-append}
use Rattle.qtc_ops.specs.ItemValue.{ItemValue}
use Rattle.qtc_ops.specs.Kept.{fails_at}
use Rattle.qtc_kernel.specs.Driving.{called_by}
use Rattle.qtc_kernel.specs.Runs.{times_called}
use Rattle.qtc_kernel.specs.Workload.{Workload, bad_indexes, worked_on}
use Rattle.qtc_job_file.specs.declared.jobs.Job.{Job}
use Rattle.qtc_ops.specs.Operations.{value_of}
use Rattle.qtc_run.specs.Failing.{failing_indexes, fails_in, is_refused}
use Rattle.qtc_run.specs.Laws.{EndsAs, JobsFailAtTheFirst}
use Rattle.qtc_run.specs.Sequential.{ended_with}

-- ---- the calls

range-push : (from count : ℕ) → range_with_len from (count + 1) ≡ range_with_len from count ++ (from + count) ∷ []
range-push from zero = let e : from + zero ≡ from = omega arith in rw e refl
range-push from (suc count) =
    let next : suc count + 1 ≡ suc (count + 1) = omega arith in
    let last : from + suc count ≡ from + 1 + count = omega arith in
    rw (next, last) (ap (λ s. from ∷ s) (range-push (from + 1) count))

-- one call more
count-push : (calls : List ℕ) (call index : ℕ) → times_called (calls ++ call ∷ []) index ≡ times_called calls index + cond (eqb call index) 1 0
count-push calls call index =
    let alone : 0 + cond (eqb call index) 1 0 ≡ cond (eqb call index) 1 0 = omega arith in
    sum_by-append (λ c. cond (eqb c index) 1 0) calls (call ∷ []) ∙ ap (λ n. times_called calls index + n) alone

one-more : (count index : ℕ) → cond (ltb index count) 1 0 + cond (eqb count index) 1 0 ≡ cond (ltb index (suc count)) 1 0
one-more count index = grind (arith, nat_tests)

range-once : (count index : ℕ) → times_called (range_with_len 0 count) index ≡ cond (ltb index count) 1 0
range-once zero index = grind (arith, nat_tests)
range-once (suc count) index =
    let next : suc count ≡ count + 1 = omega arith in
    let last : 0 + count ≡ count = omega arith in
    let whole : range_with_len 0 (suc count) ≡ range_with_len 0 count ++ count ∷ [] =
    ap (range_with_len 0) next ∙ (range-push 0 count ∙ ap (λ n. range_with_len 0 count ++ n ∷ []) last) in
    ap (λ calls. times_called calls index) whole
    ∙ (count-push (range_with_len 0 count) count index ∙ (ap (λ n. n + cond (eqb count index) 1 0) (range-once count index) ∙ one-more count index))

pub calls-once : (work : Workload) (index : ℕ) → times_called (called_by work) index ≡ cond (ltb index (worked_on work (bad_indexes work))) 1 0
calls-once work index = range-once (worked_on work (bad_indexes work)) index

-- ---- the items that fail

abbrev failing_index : (List ℕ → Bool) → (List ℕ → ItemValue) → ℕ × List ℕ → Option ℕ
failing_index refuses value item = cond (fails_at refuses (value item.1)) (Some item.0) None

-- what a list of failing indexes says of the items from here on
abbrev FailsSay : (List ℕ → Bool) → (List ℕ → ItemValue) → ℕ → List (List ℕ) → List ℕ → Type 0
FailsSay refuses value first items [] =
    (place : ℕ) → place < length items → fails_at refuses (value (get_or items place [])) ≡ false
FailsSay refuses value first items (index ∷ others) =
    (place : ℕ) × (index ≡ first + place) × (place < length items) × (fails_at refuses (value (get_or items place [])) ≡ true)
    × ((earlier : ℕ) → earlier < place → fails_at refuses (value (get_or items earlier [])) ≡ false)

-- no item before this one fails, as none of those after it before a place
none-before : (refuses : List ℕ → Bool) (value : List ℕ → ItemValue) (item : List ℕ) (items : List (List ℕ)) (count : ℕ) → fails_at refuses (value item) ≡ false → ((place : ℕ) → place < count → fails_at refuses (value (get_or items place [])) ≡ false) → (place : ℕ) → place < suc count → fails_at refuses (value (get_or (item ∷ items) place [])) ≡ false
none-before refuses value item items count here later zero lt = here
none-before refuses value item items count here later (suc place) lt = later place (omega arith)

say-next : (refuses : List ℕ → Bool) (value : List ℕ → ItemValue) (first : ℕ) (item : List ℕ) (items : List (List ℕ)) (indexes : List ℕ) → fails_at refuses (value item) ≡ false → FailsSay refuses value (first + 1) items indexes → FailsSay refuses value first (item ∷ items) indexes
say-next refuses value first item items [] here says = none-before refuses value item items (length items) here says
say-next refuses value first item items (index ∷ others) here says =
    (suc says.0, omega (arith, says.1), omega (arith, says.2), says.3, none-before refuses value item items says.0 here says.4)

fails-say : (refuses : List ℕ → Bool) (value : List ℕ → ItemValue) (first : ℕ) (items : List (List ℕ)) → FailsSay refuses value first items (filter_map (failing_index refuses value) (enumerate_from first items))
fails-say refuses value first [] = λ place lt. absurd (omega arith)
fails-say refuses value first (item ∷ items) =
    ⊎_elim
    (λ (fails : fails_at refuses (value item) ≡ true).
    rw fails (0, omega arith, omega arith, fails, λ earlier lt. absurd (omega arith)))
    (λ (calm : fails_at refuses (value item) ≡ false).
    rw calm (say-next refuses value first item items (filter_map (failing_index refuses value) (enumerate_from (first + 1) items)) calm
    (fails-say refuses value (first + 1) items)))
    (cases_Bool (fails_at refuses (value item)))

says-ends : (job : Job) (items : List (List ℕ)) (indexes : List ℕ) → failing_indexes job items ≡ indexes → FailsSay (is_refused job.fold) (value_of job.op) 0 items indexes → EndsAs job items (ended_with job items indexes)
says-ends job items [] is says = (refl, All-from_get_or (λ item. fails_in job item ≡ false) items [] says)
says-ends job items (index ∷ others) is says =
    let same : index ≡ says.0 = omega (arith, says.1) in (
      record { among = subst (λ (indexes : List ℕ). Contains indexes index) (sym is) (0, omega arith, refl); item_is = refl },
      λ earlier lt. says.4 earlier (omega arith),
    )

pub job-ends : JobsFailAtTheFirst
job-ends job items = says-ends job items (failing_indexes job items) refl (fails-say (is_refused job.fold) (value_of job.op) 0 items)

-- The tasks of a queue, taken back one after the other.
use Rattle.std.proofs.Common.{◌≡◌, ℕ, ◌+◌, ◌<◌, ◌≤◌, ◌==◌, Bool, true, cond, List, [], ◌∷◌, ◌++◌, length, take, drop, get_or, Option, Some, None, refl, ap, sym, ◌∙◌, arith, subst, length-append, append_assoc, eq-eqb}
use Rattle.std.proofs.lemmas.List.{length-map, map-append, take-append-drop, take_more}
use Rattle.std.proofs.lemmas.List.Elements.{filter_map-append}
use Rattle.qtc_pool_core.specs.declared.entries.PoolEntry.{PoolEntry}
use Rattle.qtc_pool_core.specs.declared.entries.PoolEntry.TheVariants.{TookBack}
use Rattle.qtc_pool_core.specs.declared.task.Task.{Task}
use Rattle.std.specs.Option.{option_and_then}
use Rattle.qtc_pool_core.specs.Core.{tickets, without, work_of}
use Rattle.qtc_pool_core.specs.Machine.{Pool, empty, step}
use Rattle.qtc_pool_core.specs.Runs.{run_of}
use Rattle.qtc_pool_core.specs.Slots.{holders, tasks_in}
use Rattle.qtc_pool_core.specs.Steps.{taken_back}
use Rattle.qtc_pool_core.proofs.Replay.{state, step-took_back}
use Rattle.qtc_pool_core.proofs.Taken.{without-none}

pub tasks_more : {K : Type 0} (slots : List (Option (Task K))) (i : ℕ) (slot : Option (Task K)) → i < length slots → slot ≡ get_or slots i slot → tasks_in (take (i + 1) slots) ≡ tasks_in (take i slots) ++ tasks_in (slot ∷ [])
tasks_more {K = K} slots i slot within is =
    ap tasks_in (take_more slots i slot within ∙ ap (λ (s : Option (Task K)). take i slots ++ s ∷ []) (sym is)) ∙ filter_map-append (λ s. s) (take i slots) (slot ∷ [])

pub tasks_within : {K : Type 0} (slots : List (Option (Task K))) (i : ℕ) → length (tasks_in (take i slots)) ≤ length (tasks_in slots)
tasks_within {K = K} slots i =
    let whole : tasks_in slots ≡ tasks_in (take i slots) ++ tasks_in (drop i slots) = ap tasks_in (sym (take-append-drop i slots)) ∙ filter_map-append (λ s. s) (take i slots) (drop i slots) in
    omega (arith, ap length whole, length-append (tasks_in (take i slots)) (tasks_in (drop i slots)))

pub back_more : {K : Type 0} (journal now after : List PoolEntry) (slots : List (Option (Task K))) (i : ℕ) (slot : Option (Task K)) → i < length slots → slot ≡ get_or slots i slot → now ≡ journal ++ taken_back (tasks_in (take i slots)) → after ≡ now ++ taken_back (tasks_in (slot ∷ [])) → after ≡ journal ++ taken_back (tasks_in (take (i + 1) slots))
back_more {K = K} journal now after slots i slot within is before next =
    next
    ∙ ap (λ entries. entries ++ taken_back (tasks_in (slot ∷ []))) before
    ∙ append_assoc journal (taken_back (tasks_in (take i slots))) (taken_back (tasks_in (slot ∷ [])))
    ∙ ap (λ entries. journal ++ entries) (sym (map-append (λ (task : Task K). TookBack task.id) (tasks_in (take i slots)) (tasks_in (slot ∷ []))))
    ∙ ap (λ (tasks : List (Task K)). journal ++ taken_back tasks) (sym (tasks_more slots i slot within is))

-- a task more is no more than there are
pub room_more : {K : Type 0} (slots : List (Option (Task K))) (i : ℕ) (slot : Option (Task K)) (task : Task K) → i < length slots → slot ≡ get_or slots i slot → slot ≡ Some task → length (taken_back (tasks_in (take i slots))) < length (tasks_in slots)
room_more {K = K} slots i slot task within is some =
    let next = tasks_more slots i slot within is ∙ ap (λ (s : Option (Task K)). tasks_in (take i slots) ++ tasks_in (s ∷ [])) some in
    omega (arith, ap length next, length-append (tasks_in (take i slots)) (task ∷ []), tasks_within slots (i + 1), length-map (tasks_in (take i slots)) (λ (t : Task K). TookBack t.id))

-- ---- what taking all back makes of the machine
pub run-append : (pool : Pool) (entries later : List PoolEntry) → run_of pool (entries ++ later) ≡ option_and_then (λ next. run_of next later) (run_of pool entries)
run-append pool [] later = refl
run-append pool (first ∷ entries) later =
    let go : (o : Option Pool) → option_and_then (λ next. run_of next (entries ++ later)) o ≡ option_and_then (λ next. run_of next later) (option_and_then (λ next. run_of next entries) o) = elim [
      | None ↦ refl
      | Some next ↦ run-append next entries later
    ] in
    go (step pool first)

pub run-clear : {K : Type 0} (slots : List (Option (Task K))) (running : List ℕ) (reserved most : ℕ) → ((id : ℕ) → holders id slots ≤ 1) → run_of (state (tickets (tasks_in slots)) running reserved most) (taken_back (tasks_in slots)) ≡ Some (state [] running reserved most)
run-clear [] running reserved most once = refl
run-clear (None ∷ slots) running reserved most once = run-clear slots running reserved most (λ id. omega (arith, once id))
run-clear {K = K} (Some task ∷ slots) running reserved most once =
    let mine : (task.id == task.id) ≡ true = eq-eqb task.id task.id refl in
    let P : Bool → Type 0 = λ b. cond b 1 0 + holders task.id slots ≤ 1 in
    let none : holders task.id slots ≡ 0 = (let one = subst P mine (once task.id) in omega arith) in
    let rest = run-clear slots running reserved most (λ id. omega (arith, once id)) in
    let left : tasks_in slots ≡ without task.id (task ∷ tasks_in slots) = rw mine (sym (without-none task.id slots none)) in
    let waits : work_of task.id (task ∷ tasks_in slots) ≡ Some task.work = rw mine refl in
    let taken = step-took_back (task ∷ tasks_in slots) (tasks_in slots) running reserved most task.id task.work waits left in
    ap (option_and_then (λ next. run_of next (taken_back (tasks_in slots)))) taken ∙ rest

pub replays-clear : {K : Type 0} (first : ℕ) (journal after : List PoolEntry) (slots : List (Option (Task K))) (running : List ℕ) (reserved most : ℕ) → ((id : ℕ) → holders id slots ≤ 1) → run_of (empty first) journal ≡ Some (state (tickets (tasks_in slots)) running reserved most) → after ≡ journal ++ taken_back (tasks_in slots) → run_of (empty first) after ≡ Some (state [] running reserved most)
replays-clear {K = K} first journal after slots running reserved most once replays is =
    ap (run_of (empty first)) is ∙ run-append (empty first) journal (taken_back (tasks_in slots)) ∙ ap (option_and_then (λ next. run_of next (taken_back (tasks_in slots)))) replays ∙ run-clear slots running reserved most once

-- What a queue is once a task is taken.
use Rattle.std.proofs.Common.{◌≡◌, ℕ, zero, suc, ◌+◌, ◌<◌, ◌≤◌, ◌==◌, Bool, true, false, cond, not, List, [], ◌∷◌, ◌++◌, length, set, slice_get, Option, Some, None, is_some, option_map, refl, ap, sym, ◌∙◌, inl, inr, ◌⊎◌, arith, eqb-true, eq-eqb, subst, get_or}
use Rattle.std.proofs.lemmas.Option.{get_or_from_slice_get, slice_get_read}
use Rattle.std.specs.List.{find, position_from}
use Rattle.qtc_pool_core.specs.declared.task.Task.{Task}
use Rattle.qtc_pool_core.specs.Core.{without, work_of}
use Rattle.qtc_pool_core.specs.Slots.{HasTask, IsFilled, Row, holders, is_of, place_of, tasks_in}
use Rattle.qtc_pool_core.proofs.Places.{found, holds, no_holder}

-- the id is another's, where both would hold it
other_id : {K : Type 0} (id : ℕ) (slot : Option (Task K)) (slots : List (Option (Task K))) (at : ℕ) (task : Task K) → HasTask slots at task → holders task.id (slot ∷ slots) ≤ 1 → is_of id slot ≡ true → (task.id == id) ≡ false
other_id {K = K} id slot slots at task h once held =
    elim (task.id == id) as (λ b. (task.id == id) ≡ b → b ≡ false) [
      | true ↦ λ same.
          let q : task.id ≡ id = eqb-true task.id id same in
          let mine : is_of task.id slot ≡ true = rw q held in
          let more = holds slots at task h in
          let P : Bool → Type 0 = λ b. cond b 1 0 + holders task.id slots ≤ 1 in
          let two = subst P mine once in
          absurd (omega arith)
      | false ↦ λ other. refl
    ] refl

pub place-set : {K : Type 0} (id from : ℕ) (slots : List (Option (Task K))) (at : ℕ) (task : Task K) → HasTask slots at task → holders task.id slots ≤ 1 → position_from (is_of id) from (set slots at None) ≡ cond (task.id == id) None (position_from (is_of id) from slots)
place-set id from [] at task h once = absurd (cc)
place-set {K = K} id from (slot ∷ slots) zero task h once =
    let s : slot ≡ Some task = (cc) in
    let P : Option (Task K) → Type 0 = λ o. holders task.id (o ∷ slots) ≤ 1 in
    let one = subst P s once in
    let mine : (task.id == task.id) ≡ true = eq-eqb task.id task.id refl in
    let Q : Bool → Type 0 = λ b. cond b 1 0 + holders task.id slots ≤ 1 in
    let none : holders task.id slots ≡ 0 = (let m = subst Q mine one in omega arith) in
    let go : (b : Bool) → (task.id == id) ≡ b → position_from (is_of id) (from + 1) slots ≡ cond b None (cond b (Some from) (position_from (is_of id) (from + 1) slots)) = elim [
      | true ↦ λ same. (let q : task.id ≡ id = eqb-true task.id id same in no_holder id (from + 1) slots (rw (← q) none))
      | false ↦ λ other. refl
    ] in
    rw s (go (task.id == id) refl)
place-set {K = K} id from (slot ∷ slots) (suc at) task h once =
    let rest = place-set id (from + 1) slots at task h (omega arith) in
    let go : (b : Bool) → is_of id slot ≡ b → cond b (Some from) (position_from (is_of id) (from + 1) (set slots at None)) ≡ cond (task.id == id) None (cond b (Some from) (position_from (is_of id) (from + 1) slots)) = elim [
      | true ↦ λ held. ap (λ b. cond b None (Some from)) (sym (other_id id slot slots at task h once held))
      | false ↦ λ free. rest
    ] in
    go (is_of id slot) refl

pub holders-set : {K : Type 0} (id : ℕ) (slots : List (Option (Task K))) (at : ℕ) (task : Task K) → HasTask slots at task → holders id (set slots at None) + cond (task.id == id) 1 0 ≡ holders id slots
holders-set id [] at task h = absurd (cc)
holders-set id (slot ∷ slots) zero task h =
    let s : slot ≡ Some task = (cc) in rw s (omega arith)
holders-set id (slot ∷ slots) (suc at) task h = omega (arith, holders-set id slots at task h)

-- an id that nobody holds is that of no task
pub without-none : {K : Type 0} (id : ℕ) (slots : List (Option (Task K))) → holders id slots ≡ 0 → without id (tasks_in slots) ≡ tasks_in slots
without-none id [] h = refl
without-none id (None ∷ slots) h = without-none id slots (omega arith)
without-none {K = K} id (Some other ∷ slots) h =
    let go : (b : Bool) → cond b 1 0 + holders id slots ≡ 0 → cond (not b) (other ∷ without id (tasks_in slots)) (without id (tasks_in slots)) ≡ other ∷ tasks_in slots = elim [
      | true ↦ λ e. absurd (omega arith)
      | false ↦ λ e. ap (λ ts. other ∷ ts) (without-none id slots (omega arith))
    ] in
    go (other.id == id) h

pub tasks-set : {K : Type 0} (slots : List (Option (Task K))) (at : ℕ) (task : Task K) → HasTask slots at task → holders task.id slots ≤ 1 → tasks_in (set slots at None) ≡ without task.id (tasks_in slots)
tasks-set [] at task h once = absurd (cc)
tasks-set {K = K} (slot ∷ slots) zero task h once =
    let s : slot ≡ Some task = (cc) in
    let P : Option (Task K) → Type 0 = λ o. holders task.id (o ∷ slots) ≤ 1 in
    let one = subst P s once in
    let mine : (task.id == task.id) ≡ true = eq-eqb task.id task.id refl in
    let Q : Bool → Type 0 = λ b. cond b 1 0 + holders task.id slots ≤ 1 in
    let none : holders task.id slots ≡ 0 = (let m = subst Q mine one in omega arith) in
    rw s (rw mine (sym (without-none task.id slots none)))
tasks-set (None ∷ slots) (suc at) task h once = tasks-set slots at task h (omega arith)
tasks-set {K = K} (Some other ∷ slots) (suc at) task h once =
    let rest = tasks-set slots at task h (omega arith) in
    let go : (b : Bool) → (other.id == task.id) ≡ b → other ∷ tasks_in (set slots at None) ≡ cond (not b) (other ∷ without task.id (tasks_in slots)) (without task.id (tasks_in slots)) = elim [
      | true ↦ λ held.
          absurd (let e = other_id task.id (Some other) slots at task h once held in let m : (task.id == task.id) ≡ true = eq-eqb task.id task.id refl in (cc))
      | false ↦ λ free. ap (λ ts. other ∷ ts) rest
    ] in
    go (other.id == task.id) refl

pub fewer-set : {K : Type 0} (slots : List (Option (Task K))) (at : ℕ) (task : Task K) → HasTask slots at task → length (tasks_in (set slots at None)) + 1 ≡ length (tasks_in slots)
fewer-set [] at task h = absurd (cc)
fewer-set (slot ∷ slots) zero task h = let s : slot ≡ Some task = (cc) in rw s (omega arith)
fewer-set (None ∷ slots) (suc at) task h = fewer-set slots at task h
fewer-set (Some other ∷ slots) (suc at) task h = omega (arith, fewer-set slots at task h)

-- the task that an id finds
pub finds : {K : Type 0} (slots : List (Option (Task K))) (at : ℕ) (task : Task K) → HasTask slots at task → holders task.id slots ≤ 1 → find (λ other. other.id == task.id) (tasks_in slots) ≡ Some task
finds [] at task h once = absurd (cc)
finds {K = K} (slot ∷ slots) zero task h once =
    let s : slot ≡ Some task = (cc) in
    let mine : (task.id == task.id) ≡ true = eq-eqb task.id task.id refl in
    rw s (rw mine refl)
finds (None ∷ slots) (suc at) task h once = finds slots at task h (omega arith)
finds {K = K} (Some other ∷ slots) (suc at) task h once =
    let rest = finds slots at task h (omega arith) in
    let go : (b : Bool) → (other.id == task.id) ≡ b → cond b (Some other) (find (λ o. o.id == task.id) (tasks_in slots)) ≡ Some task = elim [
      | true ↦ λ held.
          absurd (let e = other_id task.id (Some other) slots at task h once held in let m : (task.id == task.id) ≡ true = eq-eqb task.id task.id refl in (cc))
      | false ↦ λ free. rest
    ] in
    go (other.id == task.id) refl

pub works : {K : Type 0} (slots : List (Option (Task K))) (at : ℕ) (task : Task K) → HasTask slots at task → holders task.id slots ≤ 1 → work_of task.id (tasks_in slots) ≡ Some task.work
works slots at task h once = ap (option_map (λ found. found.work)) (finds slots at task h once)

pub finds_none : {K : Type 0} (id from : ℕ) (slots : List (Option (Task K))) → position_from (is_of id) from slots ≡ None → find (λ other. other.id == id) (tasks_in slots) ≡ None
finds_none id from [] h = refl
finds_none id from (None ∷ slots) h = finds_none id (from + 1) slots h
finds_none {K = K} id from (Some other ∷ slots) h =
    let go : (b : Bool) → cond b (Some from) (position_from (is_of id) (from + 1) slots) ≡ None → cond b (Some other) (find (λ o. o.id == id) (tasks_in slots)) ≡ None = elim [
      | true ↦ λ e. absurd (cc)
      | false ↦ λ e. finds_none id (from + 1) slots e
    ] in
    go (other.id == id) h

pub works_none : {K : Type 0} (id : ℕ) (slots : List (Option (Task K))) → place_of id slots ≡ None → work_of id (tasks_in slots) ≡ None
works_none {K = K} id slots h = ap (option_map (λ (found : Task K). found.work)) (finds_none id 0 slots h)

-- ---- which slots have a task
pub has-set : {K : Type 0} (slots : List (Option (Task K))) (at place : ℕ) (task : Task K) → HasTask (set slots at None) place task → HasTask slots place task
has-set [] at place task h = h
has-set (slot ∷ slots) zero zero task h = absurd (cc)
has-set (slot ∷ slots) zero (suc place) task h = h
has-set (slot ∷ slots) (suc at) zero task h = h
has-set (slot ∷ slots) (suc at) (suc place) task h = has-set slots at place task h

pub has-push : {K : Type 0} (slots : List (Option (Task K))) (new : Task K) (place : ℕ) (task : Task K) → HasTask (slots ++ Some new ∷ []) place task → HasTask slots place task ⊎ ((place ≡ length slots) × (task ≡ new))
has-push [] new zero task h = inr (refl, (cc))
has-push [] new (suc place) task h = absurd (cc)
has-push (slot ∷ slots) new zero task h = inl h
has-push {K = K} (slot ∷ slots) new (suc place) task h =
    elim (has-push slots new place task h) [ inl old ↦ inl old | inr last ↦ inr (omega (arith, last.0), last.1) ]

pub has_within : {K : Type 0} (slots : List (Option (Task K))) (place : ℕ) (task : Task K) → HasTask slots place task → place < length slots
has_within [] place task h = absurd (cc)
has_within (slot ∷ slots) zero task h = omega arith
has_within (slot ∷ slots) (suc place) task h = omega (arith, has_within slots place task h)

pub none_has : {K : Type 0} (slots : List (Option (Task K))) → ((place : ℕ) (task : Task K) → HasTask slots place task → ⊥) → tasks_in slots ≡ []
none_has [] h = refl
none_has (None ∷ slots) h = none_has slots (λ place task p. h (suc place) task p)
none_has (Some task ∷ slots) h = absurd (h 0 task refl)

pub few_tasks : {K : Type 0} (slots : List (Option (Task K))) → length (tasks_in slots) ≤ length slots
few_tasks [] = omega arith
few_tasks (None ∷ slots) = omega (arith, few_tasks slots)
few_tasks (Some task ∷ slots) = omega (arith, few_tasks slots)

-- what is read at a place is the task there
pub read_task : {K : Type 0} (slots : List (Option (Task K))) (place : ℕ) (task : Task K) (r o : Option (Task K)) → HasTask slots place task → r ≡ get_or slots place r → o ≡ r → o ≡ Some task
read_task slots place task r o h at e = e ∙ at ∙ get_or_from_slice_get slots place (Some task) r h

pub had_task : {K : Type 0} (slots : List (Option (Task K))) (place : ℕ) (r o : Option (Task K)) (task : Task K) → IsFilled slots place → r ≡ get_or slots place r → o ≡ r → o ≡ Some task → HasTask slots place task
had_task slots place r o task filled at e is =
    let same = sym (read_task slots place filled.0 r o filled.1 at e) ∙ is in
    filled.1 ∙ ap Some same

pub filled_in : {K : Type 0} (row other : Row K) (place : ℕ) → row ≡ other → IsFilled other.slots place → IsFilled row.slots place
filled_in {K = K} row other place e h = let P : Row K → Type 0 = λ r. IsFilled r.slots place in subst P (sym e) h

-- what is read at a place, where it is a task and where it is none
pub filled_read : {K : Type 0} (slots : List (Option (Task K))) (place : ℕ) (r : Option (Task K)) → place < length slots → r ≡ get_or slots place r → is_some r ≡ true → IsFilled slots place
filled_read {K = K} slots place r within at some =
    let here = slice_get_read slots (length slots) place r refl within at in
    let go : (o : Option (Task K)) → slice_get slots place ≡ Some o → is_some o ≡ true → IsFilled slots place = elim [
      | None ↦ λ e s. absurd (cc)
      | Some task ↦ λ e s. (task, e)
    ] in
    go r here some

pub unfilled_read : {K : Type 0} (slots : List (Option (Task K))) (place : ℕ) (r : Option (Task K)) (task : Task K) → place < length slots → r ≡ get_or slots place r → is_some r ≡ false → HasTask slots place task → ⊥
unfilled_read {K = K} slots place r task within at none h =
    let here = slice_get_read slots (length slots) place r refl within at in
    let go : (o : Option (Task K)) → slice_get slots place ≡ Some o → is_some o ≡ false → ⊥ = elim [
      | None ↦ λ e s. (let f : Some None ≡ Some (Some task) = sym e ∙ h in absurd (cc))
      | Some other ↦ λ e s. absurd (cc)
    ] in
    go r here none

-- the task that stands where an id is found has this id
pub found_task : {K : Type 0} (id place : ℕ) (slots : List (Option (Task K))) → place_of id slots ≡ Some place → (task : Task K) × HasTask slots place task × (task.id ≡ id)
found_task {K = K} id place slots h =
    let f = found id 0 place slots h in
    let P : ℕ → Type 0 = λ p. HasTask slots p f.task in
    let at : f.at ≡ place = omega (arith, f.is) in
    (f.task, subst P at f.here, f.named)

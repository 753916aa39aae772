-- Tasks that move from one queue to another, in their order.
use Rattle.std.proofs.Common.{◌≡◌, ℕ, ◌+◌, ◌≤◌, ◌==◌, Bool, true, false, cond, List, [], ◌∷◌, ◌++◌, Option, Some, None, is_some, refl, ap, sym, ◌∙◌, arith, subst, append_assoc, eq-eqb}
use Rattle.std.specs.List.{list_any}
use Rattle.qtc_pool_core.specs.declared.task.Task.{Task}
use Rattle.qtc_pool_core.specs.Core.{tickets}
use Rattle.qtc_pool_core.specs.Slots.{holders, tasks_in}
use Rattle.qtc_pool_core.proofs.Places.{holders-push, known_by_place, no_holder, tasks-push}

-- where no task waits nobody holds an id
pub none_held : {K : Type 0} (id : ℕ) (slots : List (Option (Task K))) → tasks_in slots ≡ [] → holders id slots ≡ 0
none_held id [] h = refl
none_held id (None ∷ slots) h = omega (arith, none_held id slots h)
none_held id (Some task ∷ slots) h = absurd (cc)

-- what moved, and what is left
pub record Moves {K : Type 0} (all moved left : List (Option (Task K))) : Type 0 where
  pub tasks : tasks_in moved ++ tasks_in left ≡ tasks_in all
  pub apart : (id : ℕ) → holders id moved + holders id left ≤ 1

pub moves-start : {K : Type 0} (all moved left : List (Option (Task K))) → left ≡ all → tasks_in moved ≡ [] → ((id : ℕ) → holders id all ≤ 1) → Moves all moved left
moves-start {K = K} all moved left same none once = record {
  tasks = ap (λ ts. ts ++ tasks_in left) none ∙ ap tasks_in same;
  apart = λ id. (let P : List (Option (Task K)) → Type 0 = λ xs. holders id xs ≤ 1 in let one = subst P (sym same) (once id) in omega (arith, none_held id moved none, one));
}

pub moves-new : {K : Type 0} (all moved left rest : List (Option (Task K))) (task : Task K) → Moves all moved left → left ≡ Some task ∷ rest → list_any (λ ticket. ticket.id == task.id) (tickets (tasks_in moved)) ≡ false
moves-new {K = K} all moved left rest task m next =
    let P : List (Option (Task K)) → Type 0 = λ xs. holders task.id moved + holders task.id xs ≤ 1 in
    let one = subst P next (m.apart task.id) in
    let mine : (task.id == task.id) ≡ true = eq-eqb task.id task.id refl in
    let Q : Bool → Type 0 = λ b. holders task.id moved + (cond b 1 0 + holders task.id rest) ≤ 1 in
    let free = no_holder task.id 0 moved (let two = subst Q mine one in omega arith) in
    sym (known_by_place task.id 0 moved) ∙ ap is_some free

pub moves-next : {K : Type 0} (all moved left rest after : List (Option (Task K))) (task : Task K) → Moves all moved left → left ≡ Some task ∷ rest → after ≡ moved ++ Some task ∷ [] → Moves all after rest
moves-next {K = K} all moved left rest after task m next is =
    let whole : Moves all (moved ++ Some task ∷ []) rest = record {
      tasks = ap (λ ts. ts ++ tasks_in rest) (tasks-push moved task) ∙ append_assoc (tasks_in moved) (task ∷ []) (tasks_in rest) ∙ ap (λ xs. tasks_in moved ++ tasks_in xs) (sym next) ∙ m.tasks;
      apart = λ id. (let P : List (Option (Task K)) → Type 0 = λ xs. holders id moved + holders id xs ≤ 1 in let one = subst P next (m.apart id) in omega (arith, one, holders-push id moved task));
    } in
    let P : List (Option (Task K)) → Type 0 = λ xs. Moves all xs rest in
    subst P (sym is) whole

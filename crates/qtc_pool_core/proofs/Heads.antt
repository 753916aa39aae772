-- The first task of greatest priority, as the definition finds it.
use Rattle.std.proofs.Common.{◌≡◌, ℕ, ℤ, zero, suc, ◌<◌, ◌<ℤ◌, ◌≤ℤ◌, ◌&&◌, Bool, true, false, List, [], ◌∷◌, Option, Some, None, refl, sym, ◌∙◌, arith}
use lib.Signed.{le_z}
use Rattle.std.specs.List.{find, list_all}
use Rattle.std.proofs.lemmas.Int.{ints}
use Rattle.qtc_pool_core.specs.declared.task.Task.{Task}
use Rattle.qtc_pool_core.specs.Core.{ticket_of, tickets}
use Rattle.qtc_pool_core.specs.Machine.{Ticket, head_of, is_greatest}
use Rattle.qtc_pool_core.specs.Slots.{HasTask, IsHeadAt, tasks_in}

all_pass : {K : Type 0} (p : Ticket → Bool) (slots : List (Option (Task K))) → ((place : ℕ) (task : Task K) → HasTask slots place task → p (ticket_of task) ≡ true) → list_all p (tickets (tasks_in slots)) ≡ true
all_pass p [] each = refl
all_pass p (None ∷ slots) each = all_pass p slots (λ place task h. each (suc place) task h)
all_pass p (Some task ∷ slots) each = rw (each 0 task refl) (all_pass p slots (λ place other h. each (suc place) other h))

not_all : {K : Type 0} (p : Ticket → Bool) (slots : List (Option (Task K))) (place : ℕ) (task : Task K) → HasTask slots place task → p (ticket_of task) ≡ false → list_all p (tickets (tasks_in slots)) ≡ false
not_all p [] place task h fails = absurd (cc)
not_all {K = K} p (slot ∷ slots) zero task h fails =
    let s : slot ≡ Some task = (cc) in rw s (rw fails refl)
not_all p (None ∷ slots) (suc place) task h fails = not_all p slots place task h fails
not_all {K = K} p (Some other ∷ slots) (suc place) task h fails =
    let rest = not_all p slots place task h fails in
    elim (p (ticket_of other)) as (λ b. (b && list_all p (tickets (tasks_in slots))) ≡ false) [ true ↦ rest | false ↦ refl ]

first_found : {K : Type 0} (p : Ticket → Bool) (slots : List (Option (Task K))) (place : ℕ) (task : Task K) → HasTask slots place task → p (ticket_of task) ≡ true → ((other : ℕ) (rival : Task K) → other < place → HasTask slots other rival → p (ticket_of rival) ≡ false) → find p (tickets (tasks_in slots)) ≡ Some (ticket_of task)
first_found p [] place task h passes before = absurd (cc)
first_found {K = K} p (slot ∷ slots) zero task h passes before =
    let s : slot ≡ Some task = (cc) in rw s (rw passes refl)
first_found p (None ∷ slots) (suc place) task h passes before =
    first_found p slots place task h passes (λ other rival sooner k. before (suc other) rival (omega arith) k)
first_found {K = K} p (Some first ∷ slots) (suc place) task h passes before =
    rw (before 0 first (omega arith) refl) (first_found p slots place task h passes (λ other rival sooner k. before (suc other) rival (omega arith) k))

at_most : (a b : ℤ) → a ≤ℤ b → le_z a b ≡ true
at_most a b h = grind (arith, ints)

more : (a b : ℤ) → b <ℤ a → le_z a b ≡ false
more a b h = grind (arith, ints)

pub head_found : {K : Type 0} (slots : List (Option (Task K))) (place : ℕ) (head : IsHeadAt slots place) → head_of (tickets (tasks_in slots)) ≡ Some (ticket_of head.task)
head_found {K = K} slots place head =
    let queue = tickets (tasks_in slots) in
    first_found (is_greatest queue) slots place head.task head.here
    (all_pass (λ other. le_z other.priority head.task.priority) slots (λ other rival h. at_most rival.priority head.task.priority (head.after other rival h)))
    (λ other rival sooner h. not_all (λ o. le_z o.priority rival.priority) slots place head.task head.here (more head.task.priority rival.priority (head.before other rival sooner h)))

-- a place has one task
pub one_task : {K : Type 0} (slots : List (Option (Task K))) (place : ℕ) (task other : Task K) → HasTask slots place task → HasTask slots place other → task ≡ other
one_task slots place task other h k = (let e : Some (Some task) ≡ Some (Some other) = sym h ∙ k in (cc))

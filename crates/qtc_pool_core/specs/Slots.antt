-- The tasks of a queue as they lie in memory: in order of arrival, with gaps where one was taken. (Own.)
use Rattle.std.specs.Prelude.{ℕ, ◌≡◌, ◌==◌, ◌+◌, ◌<◌, ◌<ℤ◌, ◌≤ℤ◌, Bool, false, if◌then◌else◌, List, [], ◌∷◌, Option, None, Some, slice_get}
use Rattle.std.specs.List.{filter_map, position_from}
use Rattle.qtc_pool_core.specs.declared.task.Task.{Task}

-- a queue's slots, and how many more tasks there is room for
pub record Row (K : Type 0) : Type 0 where
  pub slots : List (Option (Task K))
  pub room : ℕ

-- the tasks that wait, in order of arrival
abbrev pub tasks_in : {K : Type 0} → List (Option (Task K)) → List (Task K)
tasks_in slots = filter_map (λ slot. slot) slots

-- the slot at the place has the task
abbrev pub HasTask : {K : Type 0} → List (Option (Task K)) → ℕ → Task K → Type 0
HasTask slots place task = slice_get slots place ≡ Some (Some task)

-- whether the slot has the task with the id
abbrev pub is_of : {K : Type 0} → ℕ → Option (Task K) → Bool
is_of id None = false
is_of id (Some task) = task.id == id

-- the place of the task with the id
abbrev pub place_of : {K : Type 0} → ℕ → List (Option (Task K)) → Option ℕ
place_of id slots = position_from (is_of id) 0 slots

-- how many slots have a task with the id
abbrev pub holders : {K : Type 0} → ℕ → List (Option (Task K)) → ℕ
holders id [] = 0
holders id (slot ∷ slots) = (if is_of id slot then 1 else 0) + holders id slots

-- the first task of greatest priority stands at the place: what stands before it has less
pub record IsHeadAt {K : Type 0} (slots : List (Option (Task K))) (place : ℕ) : Type 0 where
  pub task : Task K
  pub here : HasTask slots place task
  pub before :
      (other : ℕ) (rival : Task K) → other < place → HasTask slots other rival → rival.priority <ℤ task.priority
  pub after : (other : ℕ) (rival : Task K) → HasTask slots other rival → rival.priority ≤ℤ task.priority

-- the slot at the place has a task
abbrev pub IsFilled : {K : Type 0} → List (Option (Task K)) → ℕ → Type 0
IsFilled {K} slots place = (task : Task K) × HasTask slots place task

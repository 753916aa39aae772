-- How a pool lies in memory. (Own.)
use Rattle.std.specs.Prelude.{ℕ, ℤ, ◌≡◌, ◌+◌, ◌-◌, ◌*◌, ◌<◌, ◌≤◌, List, ◌∷◌, length, nat_eq, slice_get, All, Contains, Option, Some}
use Rattle.std.specs.BinaryHeap.{IsHeap, IsUpperBound, heap_items, heap_len, heap_capacity}
use Rattle.std.specs.declared.collections.BinaryHeap.{BinaryHeap}
use Rattle.std.specs.HashMap.{HashMap, get, spare}
use Rattle.std.specs.declared.cmp.Ordering.{Ordering}
use Rattle.std.specs.List.Sorted.{IsPermutation}
use Rattle.std.specs.Ordering.{int_cmp, nat_cmp, ordering_then}
use Rattle.std.specs.declared.vec.Vec.{Vec}
use Rattle.std.specs.Vec.{vec_len, vec_capacity}
use Rattle.std.specs.declared.cmp.Reverse.{Reverse}
use Rattle.qtc_pool_core.specs.declared.entries.PoolEntry.{PoolEntry}
use Rattle.qtc_pool_core.specs.declared.task.Task.{Task}
use Rattle.qtc_base.specs.Limits.{most_reserved, most_threads}
use Rattle.qtc_pool_core.specs.Core.{Core, Replays}
use Rattle.qtc_pool_core.specs.Slots.{Row, HasTask, holders, place_of, tasks_in}

-- a task's priority, and then its place, the earlier one being the greater rank
abbrev pub rank_cmp : ℤ × Reverse ℕ → ℤ × Reverse ℕ → Ordering
rank_cmp x y = ordering_then (int_cmp x.0 y.0) (nat_cmp y.1.0 x.1.0)

-- the rank of the task at a place
abbrev pub rank_of : {K : Type 0} → Task K → ℕ → ℤ × Reverse ℕ
rank_of task place = (task.priority, record { 0 = place })

-- each task has its rank
abbrev pub AreRanked : {K : Type 0} → List (Option (Task K)) → List (ℤ × Reverse ℕ) → Type 0
AreRanked {K} slots ranks = (place : ℕ) (task : Task K) → HasTask slots place task → Contains ranks (rank_of task place)

-- a rank is that of the task at its place, or that task was taken
pub record IsCurrent {K : Type 0} (slots : List (Option (Task K))) (rank : ℤ × Reverse ℕ) : Type 0 where
  pub below : rank.1.0 < length slots
  pub priority : (task : Task K) → HasTask slots rank.1.0 task → task.priority ≡ rank.0

-- each task is found by its id, which no other task has, and by its rank
pub record AreLaid {K : Type 0} (slots : List (Option (Task K))) (places : ℕ → Option ℕ) (ranks : List (ℤ × Reverse ℕ))
    (count : ℕ) : Type 0 where
  pub counted : count ≡ length (tasks_in slots)
  pub placed : (id : ℕ) → places id ≡ place_of id slots
  pub once : (id : ℕ) → holders id slots ≤ 1
  pub ranked : AreRanked slots ranks
  pub current : All (IsCurrent slots) ranks

-- the greatest rank of a heap
pub record IsTop {Z : Type 0} (ranks : BinaryHeap (ℤ × Reverse ℕ) Z) (rank : ℤ × Reverse ℕ) : Type 0 where
  pub first : slice_get (heap_items ranks) 0 ≡ Some rank
  pub greatest : IsHeap rank_cmp (heap_items ranks) → IsUpperBound rank_cmp rank (heap_items ranks)

-- a heap without its greatest rank
pub record DropsTop {Z : Type 0} (old new : BinaryHeap (ℤ × Reverse ℕ) Z) : Type 0 where
  pub top : ℤ × Reverse ℕ
  pub first : slice_get (heap_items old) 0 ≡ Some top
  pub same : IsPermutation (heap_items old) (top ∷ heap_items new)
  pub heaped : IsHeap rank_cmp (heap_items old) → IsHeap rank_cmp (heap_items new)
  pub fewer : heap_len new + 1 ≡ heap_len old
  pub capacity : heap_capacity new ≡ heap_capacity old

-- what holds of a queue's parts: where there is room for a slot, there is for its place and its rank
pub record IsLaid {K S Y Z : Type 0} (slots : Vec (Option (Task K)) Y) (places : HashMap ℕ ℕ S)
    (ranks : BinaryHeap (ℤ × Reverse ℕ) Z) (count : ℕ) : Type 0 where
  pub laid : AreLaid slots.items (get nat_eq places) (heap_items ranks) count
  pub heaped : IsHeap rank_cmp (heap_items ranks)
  pub few_ranks : heap_len ranks ≤ vec_len slots
  pub ranks_fit : vec_capacity slots ≤ heap_capacity ranks
  pub places_fit : vec_capacity slots ≤ vec_len slots + spare places

-- the slots, and how many more there is room for
abbrev pub row_of : {K Y : Type 0} → Vec (Option (Task K)) Y → Row K
row_of slots = record { slots = slots.items; room = vec_capacity slots - vec_len slots }

-- what the entries to come need: two for each task that waits, one for each that runs, three for each start
abbrev pub owed : (waiting running starts : ℕ) → ℕ
owed waiting running starts = 2 * waiting + running + 3 * starts

-- what holds of a pool's parts
pub record IsKept {K Y Z : Type 0} (core : Core K) (row : Row K) (running : Vec ℕ Y) (journal : Vec PoolEntry Z)
    : Type 0 where
  pub replays : Replays core
  pub began : (0 < core.first) × (core.first ≤ most_threads)
  pub few : length core.running ≤ most_threads
  pub most : (0 < core.max) × (core.max ≤ most_threads)
  pub bounded : core.reserved ≤ most_reserved
  pub starts : core.spare ≤ row.room
  pub entries : vec_len journal + owed (length core.queue) (length core.running) core.spare ≤ vec_capacity journal
  pub threads : 0 < length core.queue + core.spare → most_threads ≤ vec_capacity running

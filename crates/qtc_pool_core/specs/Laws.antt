-- What the machine of a pool comes to, in other words. (Own.)
use Rattle.std.specs.Prelude.{ℕ, ◌≡◌, ◌≤◌, ◌<◌, ◌+◌, ◌==◌, ◌↔◌, ◌<ℤ◌, ◌≤ℤ◌, Bool, false, if◌then◌else◌, List, [], ◌∷◌, ◌++◌, Some, None, length, map, All, IsTrue}
use Rattle.qtc_pool_core.specs.declared.entries.PoolEntry.{PoolEntry}
use Rattle.qtc_pool_core.specs.declared.entries.PoolEntry.TheVariants.{Started, Tried, Took, TookBack, Done}
use Rattle.qtc_pool_core.specs.Machine.{Pool, Ticket, empty, head_of, is_running, may_run, step}
use Rattle.qtc_base.specs.Limits.{most_reserved, most_threads}
use Rattle.qtc_pool_core.specs.Runs.{run_of}

-- no task before it has its priority, and none of the queue a greater one
pub record IsFirstOfGreatest (queue : List Ticket) (head : Ticket) : Type 0 where
  pub before : List Ticket
  pub after : List Ticket
  pub place : queue ≡ before ++ head ∷ after
  pub sooner : All (λ other. other.priority <ℤ head.priority) before
  pub all : All (λ other. other.priority ≤ℤ head.priority) queue

-- the head of a queue is the first task of greatest priority, and only an empty queue has none
pub record HeadsAreFirst : Type 0 where
  pub some : (queue : List Ticket) (head : Ticket) → (head_of queue ≡ Some head) ↔ IsFirstOfGreatest queue head
  pub none : (queue : List Ticket) → head_of queue ≡ None → queue ≡ []

-- how often an id stands in a list
abbrev pub times : ℕ → List ℕ → ℕ
times id [] = 0
times id (other ∷ others) = (if other == id then 1 else 0) + times id others

abbrev pub waiting : Pool → List ℕ
waiting pool = map (λ ticket. ticket.id) pool.queue

-- no id stands twice among what waits and what runs, and no more run than a pool may have threads
pub record IsLawful (pool : Pool) : Type 0 where
  pub once : (id : ℕ) → times id (waiting pool) + times id pool.running ≤ 1
  pub few : length pool.running ≤ most_threads

-- so it is whatever entries led there
abbrev pub RunsAreLawful : Type 0
RunsAreLawful =
    (most : ℕ) (entries : List PoolEntry) (pool : Pool) → most ≤ most_threads
    → run_of (empty most) entries ≡ Some pool → IsLawful pool

-- the limit is that of some threads, and of no more than a pool may have, nor are more reserved than may be
pub record IsWithinLimits (pool : Pool) : Type 0 where
  pub some : 0 < pool.max
  pub few : pool.max ≤ most_threads
  pub bounded : pool.reserved ≤ most_reserved

-- so it is whatever entries led there
abbrev pub LimitsHold : Type 0
LimitsHold =
    (most : ℕ) (entries : List PoolEntry) (pool : Pool) → 0 < most → most ≤ most_threads
    → run_of (empty most) entries ≡ Some pool → IsWithinLimits pool

-- what begins to run does not run yet, and may
pub record TasksRunOnce : Type 0 where
  pub took :
      (old : Pool) (id : ℕ) (new : Pool) → IsLawful old → step old (Took id) ≡ Some new
      → (is_running id old ≡ false) × IsTrue (may_run old)
  pub tried :
      (old : Pool) (id : ℕ) (new : Pool) → step old (Tried id) ≡ Some new
      → (is_running id old ≡ false) × IsTrue (may_run old)

-- how often a list has an entry of a kind for an id
abbrev pub entries_of : (ℕ → PoolEntry → Bool) → ℕ → List PoolEntry → ℕ
entries_of kind id [] = 0
entries_of kind id (entry ∷ entries) = (if kind id entry then 1 else 0) + entries_of kind id entries

abbrev pub is_start : ℕ → PoolEntry → Bool
is_start id (Started other priority) = other == id
is_start id _ = false

-- it left the queue
abbrev pub is_taking : ℕ → PoolEntry → Bool
is_taking id (Took other) = other == id
is_taking id (TookBack other) = other == id
is_taking id _ = false

-- it began to run
abbrev pub is_run : ℕ → PoolEntry → Bool
is_run id (Took other) = other == id
is_run id (Tried other) = other == id
is_run id _ = false

abbrev pub is_end : ℕ → PoolEntry → Bool
is_end id (Done other) = other == id
is_end id _ = false

-- each task that was started was taken out of the queue once or waits, and each that began to run ended once or runs
pub record AreAccounted (entries : List PoolEntry) (pool : Pool) (id : ℕ) : Type 0 where
  pub starts : entries_of is_start id entries ≡ entries_of is_taking id entries + times id (waiting pool)
  pub runs : entries_of is_run id entries ≡ entries_of is_end id entries + times id pool.running

abbrev pub TasksAreAccounted : Type 0
TasksAreAccounted =
    (most : ℕ) (entries : List PoolEntry) (pool : Pool) (id : ℕ) → most ≤ most_threads
    → run_of (empty most) entries ≡ Some pool → AreAccounted entries pool id

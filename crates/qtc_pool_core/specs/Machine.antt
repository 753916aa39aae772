-- The machine of a pool: which tasks wait, which run, and what each entry of its journal does. (After QThreadPool; the ids,
-- the refusals and the limits are own.)
use Rattle.std.specs.Prelude.{ℕ, ℤ, ◌+◌, ◌-◌, ◌==◌, ◌&&◌, ◌||◌, nat_lt, nat_le, int_le, not, Bool, false, if◌then◌else◌, List, [], ◌∷◌, ◌++◌, Option, None, Some, length, filter, find}
use Rattle.std.specs.List.{list_any, list_all}
use Rattle.std.specs.Option.{option_map_or}
use Rattle.qtc_base.specs.Limits.{most_reserved, most_threads}
use Rattle.qtc_pool_core.specs.declared.entries.PoolEntry.{PoolEntry}
use Rattle.qtc_pool_core.specs.declared.entries.PoolEntry.TheVariants.{Started, Tried, Took, TookBack, Done, Reserved, Released, MaxSet}

-- a task that waits
pub record Ticket : Type 0 where
  pub id : ℕ
  pub priority : ℤ

-- the tasks that wait, in order of arrival, and the ids of those that run
pub record Pool : Type 0 where
  pub queue : List Ticket
  pub running : List ℕ
  pub reserved : ℕ
  pub max : ℕ

-- nothing waits, nothing runs, and no thread is reserved
abbrev pub empty : ℕ → Pool
empty most = record { queue = []; running = []; reserved = 0; max = most }

-- a thread is free for a task, or no task runs
abbrev pub may_run : Pool → Bool
may_run pool = nat_lt (length pool.running + pool.reserved) pool.max || (length pool.running == 0)

abbrev pub is_queued : ℕ → Pool → Bool
is_queued id pool = list_any (λ ticket. ticket.id == id) pool.queue

abbrev pub is_running : ℕ → Pool → Bool
is_running id pool = list_any (λ other. other == id) pool.running

abbrev pub is_known : ℕ → Pool → Bool
is_known id pool = is_queued id pool || is_running id pool

-- no task of the queue has a greater priority
abbrev pub is_greatest : List Ticket → Ticket → Bool
is_greatest queue ticket = list_all (λ other. int_le other.priority ticket.priority) queue

-- the first task of greatest priority
abbrev pub head_of : List Ticket → Option Ticket
head_of queue = find (is_greatest queue) queue

abbrev pub is_head : ℕ → Pool → Bool
is_head id pool = option_map_or (λ head. head.id == id) (head_of pool.queue) false

abbrev pub with_queued : Pool → ℕ → ℤ → Pool
with_queued pool id priority = record pool { queue = pool.queue ++ record { id = id; priority = priority } ∷ [] }

abbrev pub with_running : Pool → ℕ → Pool
with_running pool id = record pool { running = pool.running ++ id ∷ [] }

abbrev pub without_queued : Pool → ℕ → Pool
without_queued pool id = record pool { queue = filter (λ ticket. not (ticket.id == id)) pool.queue }

abbrev pub without_running : Pool → ℕ → Pool
without_running pool id = record pool { running = filter (λ other. not (other == id)) pool.running }

-- the pool, where the entry may stand
abbrev pub only_if : Bool → Pool → Option Pool
only_if may pool = if may then Some pool else None

-- the pool after an entry, or nothing where the entry may not stand
abbrev pub step : Pool → PoolEntry → Option Pool
step pool (Started id priority) = only_if (not (is_known id pool)) (with_queued pool id priority)
step pool (Tried id) = only_if (not (is_known id pool) && may_run pool) (with_running pool id)
step pool (Took id) = only_if (is_head id pool && may_run pool) (with_running (without_queued pool id) id)
step pool (TookBack id) = only_if (is_queued id pool) (without_queued pool id)
step pool (Done id) = only_if (is_running id pool) (without_running pool id)
step pool Reserved = only_if (nat_lt pool.reserved most_reserved) (record pool { reserved = pool.reserved + 1 })
step pool Released = only_if (nat_lt 0 pool.reserved) (record pool { reserved = pool.reserved - 1 })
step pool (MaxSet most) = only_if (nat_lt 0 most && nat_le most most_threads) (record pool { max = most })

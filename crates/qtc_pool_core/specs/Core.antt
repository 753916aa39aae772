-- A pool as its callers see it. (Own.)
use Rattle.std.specs.Prelude.{ℕ, ◌≡◌, ◌==◌, not, List, [], Option, Some, map, filter, find}
use Rattle.std.specs.Option.{option_map}
use Rattle.qtc_pool_core.specs.declared.entries.PoolEntry.{PoolEntry}
use Rattle.qtc_pool_core.specs.declared.task.Task.{Task}
use Rattle.qtc_pool_core.specs.Machine.{Pool, Ticket, empty}
use Rattle.qtc_pool_core.specs.Runs.{run_of}

-- the machine's state, with the work of each task that waits; its journal, and the limit that it began with; and how many
-- starts there is room for
pub record Core (K : Type 0) : Type 0 where
  pub first : ℕ
  pub queue : List (Task K)
  pub running : List ℕ
  pub reserved : ℕ
  pub max : ℕ
  pub journal : List PoolEntry
  pub spare : ℕ

abbrev pub new_core : {K : Type 0} → ℕ → Core K
new_core most = record {
  first = most;
  queue = [];
  running = [];
  reserved = 0;
  max = most;
  journal = [];
  spare = 0;
}

abbrev pub ticket_of : {K : Type 0} → Task K → Ticket
ticket_of task = record { id = task.id; priority = task.priority }

abbrev pub tickets : {K : Type 0} → List (Task K) → List Ticket
tickets queue = map ticket_of queue

-- the state of the machine
abbrev pub pool_of : {K : Type 0} → Core K → Pool
pool_of core = record {
  queue = tickets core.queue;
  running = core.running;
  reserved = core.reserved;
  max = core.max;
}

-- the tasks but that with the id
abbrev pub without : {K : Type 0} → ℕ → List (Task K) → List (Task K)
without id queue = filter (λ task. not (task.id == id)) queue

-- the work that waits under an id
abbrev pub work_of : {K : Type 0} → ℕ → List (Task K) → Option K
work_of id queue = option_map (λ task. task.work) (find (λ task. task.id == id) queue)

-- the journal, from an empty pool of the first limit, leaves this pool
abbrev pub Replays : {K : Type 0} → Core K → Type 0
Replays core = run_of (empty core.first) core.journal ≡ Some (pool_of core)

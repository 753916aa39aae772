-- What one call makes of a pool. (After QThreadPool; own.)
use Rattle.std.specs.Prelude.{ℕ, ℤ, ◌≡◌, List, [], ◌∷◌, ◌++◌, Some, map, true, Bool, Result, Ok}
use Rattle.qtc_pool_core.specs.declared.entries.PoolEntry.{PoolEntry}
use Rattle.qtc_pool_core.specs.declared.entries.PoolEntry.TheVariants.{Tried, TookBack}
use Rattle.qtc_pool_core.specs.declared.faults.StartFault.{StartFault}
use Rattle.qtc_pool_core.specs.declared.faults.StartFault.TheVariants.{SameId as StartSameId, Memory as StartMemory}
use Rattle.qtc_pool_core.specs.declared.faults.TryFault.{TryFault}
use Rattle.qtc_pool_core.specs.declared.task.Task.{Task}
use Rattle.qtc_pool_core.specs.Machine.{step}
use Rattle.qtc_pool_core.specs.Core.{Core, pool_of}

-- one entry more in the journal, which is a step of the machine, and then these tasks wait
pub record Steps {K : Type 0} (old : Core K) (entry : PoolEntry) (waiting : List (Task K)) (new : Core K) : Type 0 where
  pub step : step (pool_of old) entry ≡ Some (pool_of new)
  pub queue : new.queue ≡ waiting
  pub journal : new.journal ≡ old.journal ++ entry ∷ []
  pub first : new.first ≡ old.first

-- the queue with one task more
abbrev pub queued : {K : Type 0} → List (Task K) → ℕ → ℤ → K → List (Task K)
queued queue id priority work = queue ++ record { id = id; priority = priority; work = work } ∷ []

-- the work that a refused start hands back
abbrev pub work_back : {K : Type 0} → StartFault K → K
work_back (StartSameId work) = work
work_back (StartMemory work) = work

-- after a try: where it may, the id runs, and else nothing changed
abbrev pub Tries : {K : Type 0} → Core K → ℕ → Result Bool TryFault → Core K → Type 0
Tries old id (Ok true) new = Steps old (Tried id) old.queue new
Tries old id _ new = new ≡ old

abbrev pub taken_back : {K : Type 0} → List (Task K) → List PoolEntry
taken_back queue = map (λ task. TookBack task.id) queue

-- each task that waited was taken back, in order of arrival
abbrev pub cleared : {K : Type 0} → Core K → Core K
cleared core = record core { queue = []; journal = core.journal ++ taken_back core.queue }

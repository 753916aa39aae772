-- What one call of a pool does and answers, at some moment of the pool. (After QThreadPool; own.)
use Rattle.std.specs.Prelude.{ℕ, ℤ, ◌≡◌, ◌≢◌, ◌<◌, ◌↔◌, Bool, false, List, [], Option, Some, Result, Err, OnOk, OnErr, OnSome, IfOk, IfErr, IfSome, IfNone, IsSome, IsTrue, length}
use Rattle.std.specs.Bool.{OnTrue, OnFalse}
use Rattle.qtc_base.specs.declared.memory.NoMemory.{NoMemory}
use Rattle.qtc_base.specs.Limits.{most_reserved}
use Rattle.qtc_pool_core.specs.declared.entries.PoolEntry.TheVariants.{Started, Took, TookBack, Done, Reserved, Released, MaxSet}
use Rattle.qtc_pool_core.specs.declared.faults.StartFault.{StartFault}
use Rattle.qtc_pool_core.specs.declared.faults.StartFault.TheVariants.{SameId}
use Rattle.qtc_pool_core.specs.declared.faults.TryFault.{TryFault}
use Rattle.qtc_pool_core.specs.declared.faults.TryFault.TheVariants as try_fault
use Rattle.qtc_pool_core.specs.declared.faults.ReserveFault.{ReserveFault}
use Rattle.qtc_pool_core.specs.declared.faults.ReserveFault.TheVariants as reserve_fault
use Rattle.qtc_pool_core.specs.declared.faults.ReleaseFault.{ReleaseFault}
use Rattle.qtc_pool_core.specs.declared.faults.ReleaseFault.TheVariants as release_fault
use Rattle.qtc_pool_core.specs.Core.{Core, pool_of, without, work_of}
use Rattle.qtc_pool_core.specs.Machine.{is_known, is_running, may_run}
use Rattle.qtc_pool_core.specs.Steps.{Steps, Tries, cleared, queued, work_back}
use Rattle.qtc_pool.specs.declared.serving.Next.{Next}
use Rattle.qtc_pool.specs.declared.serving.Next.TheVariants.{Task, Sleep, Leave}

-- there was a moment at which the pool went by this from what it was to what it then is
pub record OnceDoes {K : Type 0} (Does : Core K → Core K → Type 0) : Type 0 where
  pub before : Core K
  pub after : Core K
  pub does : Does before after

module _ {K : Type 0} where
  -- a task is queued; refused exactly where its id waits or runs, or for want of memory, and then handed back
  pub record IsStarted (id : ℕ) (priority : ℤ) (work : K) (old new : Core K) (result : Result (Unit {0}) (StartFault K))
      : Type 0 where
    pub started : OnOk result (Steps old (Started id priority) (queued old.queue id priority work) new)
    pub same_id : (result ≡ Err (SameId work)) ↔ IsTrue (is_known id (pool_of old))
    pub back : IfErr result (λ fault. work_back fault ≡ work)
    pub err : OnErr result (new ≡ old)

  -- an id runs at once where a task may run; refused exactly where it waits or runs, or for want of memory
  pub record IsTried (id : ℕ) (old new : Core K) (result : Result Bool TryFault) : Type 0 where
    pub tried : Tries old id result new
    pub same_id : (result ≡ Err try_fault.SameId) ↔ IsTrue (is_known id (pool_of old))
    pub may : IfOk result (λ may. may ≡ may_run (pool_of old))
    pub full : may_run (pool_of old) ≡ false → result ≢ Err try_fault.Memory

  -- a running task ends; false exactly where it doesn't run
  pub record IsDone (id : ℕ) (old new : Core K) (ran : Bool) : Type 0 where
    pub was : ran ≡ is_running id (pool_of old)
    pub done : OnTrue ran (Steps old (Done id) old.queue new)
    pub same : OnFalse ran (new ≡ old)

  -- the work that waits under the id is taken back, where one does
  pub record IsTakenBack (id : ℕ) (old new : Core K) (result : Option K) : Type 0 where
    pub work : result ≡ work_of id old.queue
    pub took : OnSome result (Steps old (TookBack id) (without id old.queue) new)
    pub none : IfNone result (new ≡ old)

  -- all that waits is taken back
  pub record IsCleared (old new : Core K) : Type 0 where
    pub cleared : new ≡ cleared old

  -- one thread more is reserved; refused exactly at the limit, or for want of memory
  pub record IsReserved (old new : Core K) (result : Result (Unit {0}) ReserveFault) : Type 0 where
    pub reserved : OnOk result (Steps old Reserved old.queue new)
    pub too_many : (result ≡ Err reserve_fault.TooMany) ↔ (old.reserved ≡ most_reserved)
    pub err : OnErr result (new ≡ old)

  -- one thread less is; refused exactly where none is, or for want of memory
  pub record IsReleased (old new : Core K) (result : Result (Unit {0}) ReleaseFault) : Type 0 where
    pub released : OnOk result (Steps old Released old.queue new)
    pub not_reserved : (result ≡ Err release_fault.NotReserved) ↔ (old.reserved ≡ 0)
    pub err : OnErr result (new ≡ old)

  -- the limit is set, but for want of memory
  pub record IsSet (max : ℕ) (old new : Core K) (result : Result (Unit {0}) NoMemory) : Type 0 where
    pub set : OnOk result (Steps old (MaxSet max) old.queue new)
    pub err : OnErr result (new ≡ old)

  -- nothing can be taken: nothing waits, or nothing may run
  abbrev pub IsStill : Core K → Type 0
  IsStill core = core.queue ≢ [] → may_run (pool_of core) ≡ false

  -- what a worker does next: the task that is next, which may run and then does; else a sleep where some run, and an end
  -- where none does
  abbrev pub IsNext : Core K → Core K → Next K → Type 0
  IsNext old new (Task id work) =
      IsTrue (may_run (pool_of old)) × Steps old (Took id) (without id old.queue) new
      × (work_of id old.queue ≡ Some work)
  IsNext old new (Sleep rings) = (new ≡ old) × IsStill old × (0 < length old.running)
  IsNext old new Leave = (new ≡ old) × IsStill old × (length old.running ≡ 0)

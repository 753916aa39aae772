-- The places of jobs that are done at once. (Own.)
use Rattle.std.specs.Prelude.{◌≡◌, ◌<◌, ℕ, List, Option, None, Some, length, option_to_list, slice_index_or}
use Rattle.std.specs.List.{flat_map}
use Rattle.qtc_shared.specs.Passes.{FutureId}
use Rattle.qtc_tasks.specs.Runs.{IsJobEnd, MayRun}
use Rattle.qtc_tasks.specs.Tasks.{TaskState}
use Rattle.qtc_tasks.specs.declared.ends.TaskEnd.{TaskEnd}
use Rattle.qtc_tasks.specs.declared.ends.TaskJob.{TaskJob}
use Rattle.qtc_tasks.specs.declared.places.Place.{Place}

module _ {V T : Type 0} where
  -- the place of a job that waits
  abbrev pub waiting : TaskJob V T → Place V T
  waiting job = record { job = Some job; end = None }

  -- the place has a job of the future
  abbrev pub Waits : FutureId → Option (TaskJob V T) → Type 0
  Waits future None = ⊥
  Waits future (Some job) = MayRun future job

  -- the job's end
  abbrev pub EndsAs : (T → TaskState V) → Option (TaskJob V T) → Option (TaskEnd V T) → Type 0
  EndsAs state (Some job) (Some end) = IsJobEnd state job end
  EndsAs state _ _ = ⊥

  pub record IsReady (future : FutureId) (place : Place V T) : Type 0 where
    pub waits : Waits future place.job

  -- the same of the future of a number
  pub record IsReadyAt (futures : List FutureId) (index : ℕ) (place : Place V T) : Type 0 where
    pub within : index < length futures
    pub ready : (other : FutureId) → IsReady (slice_index_or futures index other) place

  -- each place has a job of the future of its number
  abbrev pub EachIsReady : List FutureId → List (Place V T) → Type 0
  EachIsReady futures places =
      (index : ℕ) (place : Place V T) → index < length places → place ≡ slice_index_or places index place
      → IsReadyAt futures index place

  pub record IsRun (state : T → TaskState V) (old new : Place V T) : Type 0 where
    pub ends : EndsAs state old.job new.end

  pub record EachIsRun (state : T → TaskState V) (old new : List (Place V T)) : Type 0 where
    pub count : length new ≡ length old
    pub each :
        (index : ℕ) (other : Place V T) → index < length old
        → IsRun state (slice_index_or old index other) (slice_index_or new index other)

  -- the ends that these places have
  abbrev pub ends_in : List (Place V T) → List (TaskEnd V T)
  ends_in places = flat_map (λ place. option_to_list place.end) places

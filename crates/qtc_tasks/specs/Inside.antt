-- What the parts of a job's work come to. (Own.)
use Rattle.std.specs.Prelude.{◌≡◌, ◌<◌, ◌≤◌, ◌+◌, ◌⊎◌, ℕ, Bool, true, false, List, [], ◌∷◌, ◌++◌, Option, None, Some, Result, Ok, Err, length}
use Rattle.qtc_base.specs.declared.memory.NoMemory.{NoMemory}
use Rattle.qtc_base.specs.Limits.{most_end}
use Rattle.qtc_events.specs.Flags.{Standing}
use Rattle.qtc_future.specs.Future.{Logged, reports_of}
use Rattle.qtc_future.specs.declared.requests.Request.TheVariants.{AddResult}
use Rattle.qtc_store.specs.Batches.{greatest_end}
use Rattle.qtc_shared.specs.Laws.{is_ended}
use Rattle.qtc_shared.specs.Passes.{FutureId, PassState, Adds, IsHold, IsLook}
use Rattle.qtc_tasks.specs.Tasks.{TaskState}
use Rattle.qtc_tasks.specs.Turns.{AreAdded, IsOffered, StopsBy}
use Rattle.qtc_tasks.specs.declared.ends.TaskStop.{TaskStop}
use Rattle.qtc_tasks.specs.declared.ends.TaskStop.TheVariants.{Canceled, Refused, Memory}

module _ {V : Type 0} where
  -- a pass by which results are added to the future, without an index
  pub record CanAdd (future : FutureId) (pass : PassState V) : Type 0 where
    pub of : pass.of ≡ future
    pub maker : pass.number < future.terms.makers
    pub plain : future.terms.filter ≡ false

  pub record IsRefusal (old new : PassState V) (value : V) (ended : Bool) : Type 0 where
    pub offered : PassState V
    pub add : IsHold old offered (Adds old (AddResult None value) (Ok false))
    pub flags : Standing
    pub look : IsLook offered new flags
    pub showed : is_ended flags ≡ ended

  -- what an offered value is answered
  abbrev pub IsAnswered : {T : Type 0} → (old new : PassState V) → V → Option (TaskStop T) → Type 0
  IsAnswered old new value None = IsHold old new (Adds old (AddResult None value) (Ok true))
  IsAnswered old new value (Some Canceled) = IsRefusal old new value true
  IsAnswered old new value (Some Refused) = IsRefusal old new value false
  IsAnswered old new value (Some Memory) = IsHold old new (Adds old (AddResult None value) (Err (record {})))
  IsAnswered old new value (Some _) = ⊥

  -- a value was taken off the task, and added
  pub record HasAdded (before after : TaskState V) (old new : PassState V) : Type 0 where
    pub value : V
    pub left : before.left ≡ value ∷ after.left
    pub bad : after.bad ≡ before.bad
    pub offer : IsOffered old new value (Ok true)

  -- what a turn comes to
  abbrev pub IsTurn : {T : Type 0} → (before after : TaskState V) → (came : ℕ) → (old new : PassState V)
      → Option (TaskStop T) → Type 0
  IsTurn before after came old new None = HasAdded before after old new
  IsTurn before after came old new (Some stop) = StopsBy stop before came old new

module _ {V : Type 0} where
  -- where the last report of the journal ends
  abbrev pub end_at : List (Logged V) → ℕ
  end_at journal = greatest_end (reports_of journal)

  -- a job that is being worked on, of which so many values were added
  pub record IsUnderWay (future : FutureId) (task left : TaskState V) (old now : PassState V) (came : ℕ) : Type 0 where
    pub can : CanAdd future now
    pub values : List V
    pub left_is : task.left ≡ values ++ left.left
    pub bad : left.bad ≡ task.bad
    pub count : length values ≡ came
    pub added : AreAdded old values now
    pub room : came ≤ end_at now.known
    pub few : came ≤ most_end

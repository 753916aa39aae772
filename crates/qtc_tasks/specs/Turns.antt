-- The calls that a job makes on its future, one after the other, and by which of them it stops. (After QPromise; own.)
use Rattle.std.specs.Prelude.{◌≡◌, ◌⊎◌, ℕ, Bool, true, false, List, [], ◌∷◌, ◌++◌, Option, None, Some, Result, Ok, Err, IsTrue, length}
use Rattle.qtc_base.specs.declared.memory.NoMemory.{NoMemory}
use Rattle.qtc_events.specs.Flags.{Standing, flags_in}
use Rattle.qtc_events.specs.declared.flags.Flags.{Flags}
use Rattle.qtc_future.specs.Steps.{Effect}
use Rattle.qtc_future.specs.declared.requests.Request.TheVariants.{Start, AddResult, Fail}
use Rattle.qtc_shared.specs.Laws.{is_ended}
use Rattle.qtc_shared.specs.Passes.{PassState, Adds, IsHold, IsLook, IsPause, Makes}
use Rattle.qtc_tasks.specs.Tasks.{TaskState}
use Rattle.qtc_tasks.specs.declared.ends.TaskStop.{TaskStop}
use Rattle.qtc_tasks.specs.declared.ends.TaskStop.TheVariants.{Whole, Failed, Canceled, Refused, Memory, NotRun}

module _ {V : Type 0} where
  -- a pause, after which an end stands, or none does
  pub record IsPaused (old new : PassState V) (ended : Bool) : Type 0 where
    pub flags : Flags
    pub pause : IsPause old new (Ok flags)
    pub showed : is_ended (flags_in flags.bits) ≡ ended

  -- a value is offered without an index, after a pause that showed no end
  pub record IsOffered (old new : PassState V) (value : V) (answer : Result Bool NoMemory) : Type 0 where
    pub paused : PassState V
    pub pause : IsPaused old paused false
    pub add : IsHold paused new (Adds paused (AddResult None value) answer)

  -- a value is refused, and the look after it shows an end, or none
  pub record IsTurnedDown (old new : PassState V) (value : V) (ended : Bool) : Type 0 where
    pub offered : PassState V
    pub offer : IsOffered old offered value (Ok false)
    pub flags : Standing
    pub look : IsLook offered new flags
    pub showed : is_ended flags ≡ ended

  -- the first of the values is offered
  abbrev pub OffersFirst : List V → (V → Type 0) → Type 0
  OffersFirst [] Offers = ⊥
  OffersFirst (value ∷ values) Offers = Offers value

  -- these values are added, one after the other
  abbrev pub AreAdded : (old : PassState V) → List V → (new : PassState V) → Type 0
  AreAdded old [] new = new ≡ old
  AreAdded old (value ∷ values) new =
      (next : PassState V) × IsOffered old next value (Ok true) × AreAdded next values new

  -- the task has no value left and fails with a text, with which the future is failed
  pub record Fails (left : TaskState V) (came : ℕ) (old new : PassState V) : Type 0 where
    pub none : left.left ≡ []
    pub text : List ℕ
    pub bad : left.bad ≡ Some text
    pub paused : PassState V
    pub pause : IsPaused old paused false
    pub effect : Bool
    pub fail : IsHold paused new (Makes paused (Fail came text) (Effect effect))

  -- memory is wanted: in the pause, by the task after it, or by the addition
  abbrev pub WantsMemory : TaskState V → (old new : PassState V) → Type 0
  WantsMemory left old new =
      IsPause old new (Err (record {})) ⊎ IsPaused old new false
      ⊎ OffersFirst left.left (λ value. IsOffered old new value (Err (record {})))

  -- how a job that was started stops, where so many values came and this is left
  abbrev pub StopsBy : {T : Type 0} → TaskStop T → TaskState V → (came : ℕ) → (old new : PassState V) → Type 0
  StopsBy Whole left came old new = (left.left ≡ []) × (left.bad ≡ None) × IsPaused old new false
  StopsBy Failed left came old new = Fails left came old new
  StopsBy Canceled left came old new =
      IsPaused old new true ⊎ OffersFirst left.left (λ value. IsTurnedDown old new value true)
  StopsBy Refused left came old new = OffersFirst left.left (λ value. IsTurnedDown old new value false)
  StopsBy Memory left came old new = WantsMemory left old new
  StopsBy (NotRun task) left came old new = ⊥

  -- the work of a job that was started: so many values were added, and then it stopped
  pub record IsWork {T : Type 0} (task : TaskState V) (old new : PassState V) (came : ℕ) (stop : TaskStop T)
      : Type 0 where
    pub values : List V
    pub rest : List V
    pub left : task.left ≡ values ++ rest
    pub count : length values ≡ came
    pub added : PassState V
    pub adds : AreAdded old values added
    pub stops : StopsBy stop (record { left = rest; bad = task.bad }) came added new

  -- what a job did before its finish: its future was started and the work done, or it wasn't, and the task is handed back
  pub record IsStarted {T : Type 0} (task : TaskState V) (old new : PassState V) (came : ℕ) (stop : TaskStop T)
      : Type 0 where
    pub started : PassState V
    pub start : IsHold old started (Makes old Start (Effect true))
    pub work : IsWork task started new came stop

  pub record IsNotRun {T : Type 0} (task back : T) (old new : PassState V) (came : ℕ) : Type 0 where
    pub start : IsHold old new (Makes old Start (Effect false))
    pub none : came ≡ 0
    pub back_is : back ≡ task

  abbrev pub IsDone : {T : Type 0} → T → TaskState V → (old new : PassState V) → ℕ → TaskStop T → Type 0
  IsDone task state old new came (NotRun back) = IsNotRun task back old new came
  IsDone task state old new came stop = IsStarted state old new came stop

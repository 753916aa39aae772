-- What a task has still to give. (After the functions that Qt's QtConcurrent::run is handed with a QPromise; own.)
use Rattle.std.specs.Prelude.{◌≡◌, ℕ, List, [], ◌∷◌, Option, None, Some, Result, Ok, Err}
use Rattle.qtc_tasks.specs.declared.task.TaskFault.{TaskFault}
use Rattle.qtc_tasks.specs.declared.task.TaskFault.TheVariants.{Bad, Memory}

-- the values still to come, and the text of a failure after them, or none
pub record TaskState (V : Type 0) : Type 0 where
  pub left : List V
  pub bad : Option (List ℕ)

-- what `next` answers: the first of the values, which it takes off; none where there is none and no failure follows; the
-- failure where there is none and one follows; and want of memory, for which nothing changes
abbrev pub Gives : {V : Type 0} → (old new : TaskState V) → Result (Option V) TaskFault → Type 0
Gives old new (Ok (Some value)) = (old.left ≡ value ∷ new.left) × (new.bad ≡ old.bad)
Gives old new (Ok None) = (old.left ≡ []) × (old.bad ≡ None)
Gives old new (Err (Bad text)) = (old.left ≡ []) × (old.bad ≡ Some text)
Gives old new (Err Memory) = new ≡ old

-- What each call on a future is: one step. (Own.)
use Rattle.std.specs.Prelude.{ℕ, ◌≡◌, Bool, true, false, not, IsTrue, Result, Ok, Err, IsOk, OnErr, IfOk, unwrap_or}
use Rattle.qtc_base.specs.declared.memory.NoMemory.{NoMemory}
use Rattle.qtc_store.specs.declared.batch.AddFault.{AddFault}
use Rattle.qtc_store.specs.Stored.{Stored, refusal_of}
use Rattle.qtc_store.specs.declared.batch.AddFault.TheVariants.{Taken as FaultTaken, PastEnd as FaultPastEnd, Memory}
use Rattle.qtc_future.specs.Future.{Future}
use Rattle.qtc_future.specs.declared.replies.Reply.{Reply}
use Rattle.qtc_future.specs.declared.replies.Reply.TheVariants.{Taken as ReplyTaken, PastEnd as ReplyPastEnd}
use Rattle.qtc_future.specs.Steps.{Told, Effect, Dropped, Taken, PastEnd, Stepped}

-- the future is the one after the step, and its caller is told what the step tells
pub record IsStep {V : Type 0} (stepped : Stepped V) (new : Future V) (told : Told) : Type 0 where
  pub future : new ≡ stepped.future
  pub answer : told ≡ stepped.told

-- what a batch that the store refused is answered
abbrev pub refused_by : AddFault → Result Reply NoMemory
refused_by (FaultTaken index) = Ok (ReplyTaken index)
refused_by FaultPastEnd = Ok ReplyPastEnd
refused_by Memory = Err (record {})

-- what a batch is answered for which memory lacks: why the store refuses it, where it does
abbrev pub lacking_at : {V : Type 0} → Stored V → (begin total : ℕ) → Result Reply NoMemory
lacking_at store begin total = refused_by (unwrap_or (refusal_of store.batches begin total) Memory)

-- told of a call that did nothing: it had no effect, or was dropped or refused
abbrev pub is_idle : Told → Bool
is_idle (Effect effect) = not effect
is_idle (Dropped flags) = true
is_idle (Taken index) = true
is_idle PastEnd = true
is_idle _ = false

-- the same of a call that may want memory: it then left the future as it was, and it never does where it is idle
pub record IsTry {V T : Type 0} (old : Future V) (stepped : Stepped V) (told : T → Told)
    (new : Future V) (result : Result T NoMemory) : Type 0 where
  pub ok : IfOk result (λ answer. IsStep stepped new (told answer))
  pub err : OnErr result (new ≡ old)
  pub sure : IsTrue (is_idle stepped.told) → IsOk result

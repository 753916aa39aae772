-- Lists of calls on a new future. (Own.)
use Rattle.std.specs.Prelude.{◌≡◌, ◌≤◌, Bool, true, false, List, [], ◌∷◌, ◌++◌, length, fold, IsSome}
use Rattle.qtc_future.specs.Future.{Future}
use Rattle.qtc_future.specs.Steps.{Told, Effect, step, told_by}
use Rattle.qtc_future.specs.declared.requests.Answer.{Answer}
use Rattle.qtc_future.specs.declared.requests.Answer.TheVariants.{Effect as AnswerEffect, Reply as AnswerReply}
use Rattle.qtc_future.specs.declared.requests.Asked.{Asked}
use Rattle.qtc_future.specs.declared.requests.Request.{Request}
use Rattle.qtc_future.specs.declared.requests.Request.TheVariants.{ReportBatch, AddResult}

-- what a caller sees to: a batch of plain mode has a value for each index, and one of filter mode a place
abbrev pub CanAsk : {V : Type 0} → Bool → Request V → Type 0
CanAsk filter (ReportBatch begin values total) =
    (length values ≤ total) × (filter ≡ false → length values ≡ total)
CanAsk filter (AddResult index value) = filter ≡ true → IsSome index
CanAsk filter _ = Unit {0}

pub record IsAskable {V : Type 0} (filter : Bool) (asked : Asked V) : Type 0 where
  pub request : CanAsk filter asked.request

abbrev pub told_of : Answer → Told
told_of (AnswerEffect effect) = Effect effect
told_of (AnswerReply reply) = told_by reply

-- a future, and what its callers were told
pub record Run (V : Type 0) : Type 0 where
  pub future : Future V
  pub told : List Told

abbrev pub with_asked : {V : Type 0} → Run V → Asked V → Run V
with_asked run asked = let stepped = step run.future asked.caller asked.request in record {
  future = stepped.future;
  told = run.told ++ stepped.told ∷ [];
}

abbrev pub run_of : {V : Type 0} → Future V → List (Asked V) → Run V
run_of future calls = fold with_asked (record { future = future; told = [] }) calls

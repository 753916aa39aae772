-- Futures that are waited for together, and futures within futures. (After QFutureSynchronizer and QFuture::unwrap; own.)
use Rattle.std.specs.Prelude.{◌≡◌, ◌<◌, ℕ, Bool, true, false, List, [], ◌∷◌, IsTrue, length, slice_index_or}
use Rattle.qtc_events.specs.Flags.{Standing}
use Rattle.qtc_future.specs.Ends.{IsOutcome}
use Rattle.qtc_future.specs.Future.{Future}
use Rattle.qtc_future.specs.Steps.{Effect}
use Rattle.qtc_future.specs.declared.replies.Outcome.{Outcome}
use Rattle.qtc_future.specs.declared.replies.Outcome.TheVariants.{Values, Failed, Canceled}
use Rattle.qtc_future.specs.declared.requests.Request.TheVariants.{Cancel}
use Rattle.qtc_shared.specs.Journals.{flags_at}
use Rattle.qtc_shared.specs.Passes.{PassState, IsHold, IsWatch, Makes, Stays}

-- the outer outcome, where it has values, has one
abbrev pub HasOne : {V : Type 0} → Outcome (Future V) → Type 0
HasOne (Values (inner ∷ [])) = Unit {0}
HasOne (Values _) = ⊥
HasOne (Failed failure) = Unit {0}
HasOne Canceled = Unit {0}

-- it is the outcome of the inner future, and a failure or a cancel passes on
abbrev pub IsUnwrapped : {V : Type 0} → Outcome (Future V) → Outcome V → Type 0
IsUnwrapped (Values (inner ∷ [])) outcome = IsOutcome inner outcome
IsUnwrapped (Values _) outcome = ⊥
IsUnwrapped (Failed failure) outcome = outcome ≡ Failed failure
IsUnwrapped Canceled outcome = outcome ≡ Canceled

-- the outer outcome has no values, so that it passes on as it is
abbrev pub passes_on : {V : Type 0} → Outcome (Future V) → Bool
passes_on (Values values) = false
passes_on (Failed failure) = true
passes_on Canceled = true

-- the passes of the futures that are waited for, in the order in which they were added
pub record Awaited (V : Type 0) : Type 0 where
  pub cancel_on_wait : Bool
  pub passes : List (PassState V)

module _ {V : Type 0} where
  -- where it was asked for, the future is canceled
  abbrev pub CancelsWhere : Bool → (old new : PassState V) → Type 0
  CancelsWhere true old new = (effect : Bool) × IsHold old new (Makes old Cancel (Effect effect))
  CancelsWhere false old new = new ≡ old

  -- a future was waited for: a cancel before it where that was asked for, and for nothing else; looks, the last of which
  -- showed Finished; and the pass then knows a journal that is finished
  pub record IsWaitedFor (cancel : Bool) (old new : PassState V) : Type 0 where
    pub canceled : PassState V
    pub cancels : CancelsWhere cancel old canceled
    pub watched : PassState V
    pub flags : Standing
    pub watch : IsWatch canceled watched flags
    pub finished : IsTrue flags.finished
    pub hold : IsHold watched new Stays
    pub knows : IsTrue (flags_at new.known).finished

  -- each of the passes became what it is in this way
  pub record EachOf (Becomes : PassState V → PassState V → Type 0) (old new : List (PassState V)) : Type 0 where
    pub count : length new ≡ length old
    pub each :
        (index : ℕ) (other : PassState V) → index < length old
        → Becomes (slice_index_or old index other) (slice_index_or new index other)

  -- each of the futures was waited for
  abbrev pub EachWaitedFor : Bool → (old new : List (PassState V)) → Type 0
  EachWaitedFor cancel old new = EachOf (IsWaitedFor cancel) old new

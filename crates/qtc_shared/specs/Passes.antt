-- What contracts see of a shared future and of a pass, and what a hold and a look do to a pass. (After QFuture and
-- QPromise; passes are own.)
use Rattle.std.specs.Prelude.{◌≡◌, ◌<◌, ◌↔◌, ◌+◌, ℕ, Bool, true, false, List, [], ◌∷◌, ◌++◌, Option, None, Some, Result, Ok, IsTrue, IsOk, IfOk, IfNone, IfSome, OnErr, MatchBool, length, slice_get, count_by}
use Rattle.atomic_table.specs.Seated.{TableId}
use Rattle.qtc_base.specs.declared.memory.NoMemory.{NoMemory}
use Rattle.qtc_events.specs.Flags.{Standing, flags_in}
use Rattle.qtc_events.specs.declared.events.Event.{Event}
use Rattle.qtc_events.specs.declared.events.Event.TheVariants.{Ready}
use Rattle.qtc_events.specs.declared.flags.Flags.{Flags}
use Rattle.qtc_future.specs.Answering.{IsStep, IsTry, is_idle}
use Rattle.qtc_future.specs.Ends.{replay_of}
use Rattle.qtc_future.specs.Future.{Future, Logged, events_of, results_of}
use Rattle.qtc_future.specs.Steps.{Told, Accepted, Effect, has_ended, step}
use Rattle.qtc_future.specs.declared.requests.Request.{Request}
use Rattle.qtc_future.specs.declared.requests.Request.TheVariants.{ReportSuspended, Cancel, Finish}
use Rattle.qtc_store.specs.Stored.{value_at}
use Rattle.qtc_shared.specs.Journals.{IsJournal, Saw, calls_by, flags_at}
use Rattle.qtc_shared.specs.Parts.{Terms, future_at}

-- which future it is, as no other has its table, and what it was made with
pub record FutureId : Type 0 where
  pub table : TableId
  pub terms : Terms

-- a pass of the future: its number, the journal that it knows, and the flags that it saw since, in order; the flags of
-- all looks that it ever made, in order, and how many passes were made from it
pub record PassState (V : Type 0) : Type 0 where
  pub of : FutureId
  pub number : ℕ
  pub known : List (Logged V)
  pub seen : List Standing
  pub looks : List Standing
  pub children : ℕ

-- a new pass that knows this journal: it made no look, and none was made from it
abbrev pub pass_at : {V : Type 0} → FutureId → ℕ → List (Logged V) → PassState V
pass_at of number journal =
    record { of = of; number = number; known = journal; seen = []; looks = []; children = 0 }

-- the pass has seen these flags, one after the other
abbrev pub having_seen : {V : Type 0} → PassState V → List Standing → PassState V
having_seen pass seen = record pass { seen = pass.seen ++ seen; looks = pass.looks ++ seen }

-- a journal of the future, as the pass meets it
pub record Meets {V : Type 0} (pass : PassState V) (journal : List (Logged V)) : Type 0 where
  pub lawful : IsJournal pass.of.terms journal
  -- it begins with all that the pass knew, and what the pass saw since stood on the way to it
  pub saw : Saw pass.known journal pass.seen
  -- the pass knew each call of its own number in it
  pub own : calls_by pass.number journal ≡ calls_by pass.number pass.known

-- one hold of the future by a pass: at a journal that the pass meets something is done, and the pass then knows the
-- journal after it
pub record IsHold {V : Type 0} (old new : PassState V) (Does : Future V → Future V → Type 0) : Type 0 where
  pub journal : List (Logged V)
  pub met : Meets old journal
  pub done : Does (future_at old.of.terms journal) (future_at old.of.terms new.known)
  pub pass : new ≡ record old { known = new.known; seen = [] }

abbrev pub is_accepted : Told → Bool
is_accepted (Accepted added reached) = true
is_accepted _ = false

abbrev pub is_ready : Event → Bool
is_ready (Ready begin end) = true
is_ready _ = false

-- how many of the events are Ready
abbrev pub ready_among : List Event → ℕ
ready_among events = count_by is_ready events

-- what is done in a hold: the step of a call that the pass makes,
abbrev pub Makes : {V : Type 0} → PassState V → Request V → Told → Future V → Future V → Type 0
Makes pass request told before after = IsStep (step before pass.number request) after told

-- the same of a call that may want memory,
abbrev pub Tries : {V T : Type 0} → PassState V → Request V → (T → Told) → Result T NoMemory
    → Future V → Future V → Type 0
Tries pass request told result before after = IsTry before (step before pass.number request) told after result

-- or nothing,
abbrev pub Stays : {V : Type 0} → Future V → Future V → Type 0
Stays before after = after ≡ before

-- but that something is found there
abbrev pub Finds : {V : Type 0} → (Future V → Type 0) → Future V → Future V → Type 0
Finds IsThere before after = (after ≡ before) × IsThere before

-- a result is added, where its batch is accepted,
pub record Adds {V : Type 0} (pass : PassState V) (request : Request V) (result : Result Bool NoMemory)
    (before after : Future V) : Type 0 where
  pub ok : IfOk result
      (λ added. (after ≡ (step before pass.number request).future)
      × (added ≡ is_accepted (step before pass.number request).told))
  pub err : OnErr result (after ≡ before)
  pub sure : IsTrue (is_idle (step before pass.number request).told) → IsOk result

-- one look at the flags, without a hold: the pass has seen them, and they stand at a journal that it meets
pub record IsLook {V : Type 0} (old new : PassState V) (flags : Standing) : Type 0 where
  pub journal : List (Logged V)
  pub met : Meets new journal
  pub now : flags ≡ flags_at journal
  pub pass : new ≡ having_seen old (flags ∷ [])

-- the same, of which something is told
abbrev pub Sees : {V : Type 0} → (old new : PassState V) → (Standing → Type 0) → Type 0
Sees old new IsSo = (flags : Standing) × IsLook old new flags × IsSo flags

-- looks, one after the other, the last at these flags
pub record IsWatch {V : Type 0} (old new : PassState V) (flags : Standing) : Type 0 where
  pub journal : List (Logged V)
  pub met : Meets new journal
  pub now : flags ≡ flags_at journal
  pub before : List Standing
  pub pass : new ≡ having_seen old (before ++ flags ∷ [])

-- no suspension stands
pub record IsResumed (flags : Standing) : Type 0 where
  pub suspending : flags.suspending ≡ false
  pub suspended : flags.suspended ≡ false

-- what a copy of a result is: that at the index; where there is none it wants no memory
pub record IsCopied {V : Type 0} (index : ℕ) (result : Result (Option V) NoMemory) (future : Future V) : Type 0 where
  pub ok : IfOk result (λ value. value ≡ value_at (results_of future) index)
  pub sure : value_at (results_of future) index ≡ None → IsOk result

-- what a watcher is told that connects, and how many events there are then; where there is nothing to tell it wants no
-- memory
pub record IsReplayed {V : Type 0} (result : Result (List Event × ℕ) NoMemory) (future : Future V) : Type 0 where
  pub ok : IfOk result (λ told. (told.0 ≡ replay_of future) × (told.1 ≡ length (events_of future)))
  pub sure : replay_of future ≡ [] → IsOk result

-- what a wait for a result finds: that copy, and none only where Canceled or Finished stands
pub record IsAwaited {V : Type 0} (index : ℕ) (result : Result (Option V) NoMemory) (future : Future V) : Type 0 where
  pub copied : IsCopied index result future
  pub ended : IfOk result (λ value. IfNone value (IsTrue (has_ended future)))

-- that the work stands still is reported where Suspending stands: a look, and then a hold where that flag stood
pub record IsReport {V : Type 0} (old new : PassState V) (answer : Result Bool NoMemory) : Type 0 where
  pub flags : Standing
  pub looked : PassState V
  pub look : IsLook old looked flags
  pub report : MatchBool flags.suspending
      (IsHold looked new (Tries looked ReportSuspended Effect answer))
      ((new ≡ looked) × (answer ≡ Ok false))

-- a pause, where one is asked for: that report, and then looks until no suspension stands
pub record IsPause {V : Type 0} (old new : PassState V) (result : Result Flags NoMemory) : Type 0 where
  pub answer : Result Bool NoMemory
  pub reported : PassState V
  pub report : IsReport old reported answer
  pub ok : IfOk result (λ now. IsWatch reported new (flags_in now.bits) × IsResumed (flags_in now.bits))
  pub err : OnErr result (new ≡ reported)
  pub same : IsOk result ↔ IsOk answer

-- a future is ended: it is canceled, and then finished, where that has an effect
pub record IsEnding {V : Type 0} (old new : PassState V) : Type 0 where
  pub canceled : Bool
  pub between : PassState V
  pub cancel : IsHold old between (Makes old Cancel (Effect canceled))
  pub finished : Bool
  pub finish : IsHold between new (Makes between Finish (Effect finished))

-- another pass was made from a pass, or there was none to make: one hold in which nothing was done, and one child more
pub record IsParent {V : Type 0} (old new : PassState V) (made : Option (PassState V)) : Type 0 where
  pub held : PassState V
  pub hold : IsHold old held Stays
  pub none : IfNone made (new ≡ held)
  pub some : IfSome made (λ child. new ≡ record held { children = held.children + 1 })

-- a core that is shared: on which terms, with how many passes, each of which knows the core's journal
pub record IsShared {V : Type 0} (core : Future V) (makers count : ℕ) (future : FutureId)
    (passes : List (PassState V)) : Type 0 where
  pub terms : future.terms ≡ record { filter = core.filter; thresholds = core.thresholds; makers = makers }
  pub count_is : length passes ≡ count
  pub each : (number : ℕ) → number < count → slice_get passes number ≡ Some (pass_at future number core.calls)

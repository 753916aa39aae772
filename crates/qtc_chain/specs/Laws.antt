-- What lists of calls on these objects come to, and what chains do. (Own.)
use Rattle.std.specs.Prelude.{◌≡◌, ◌<◌, ◌==◌, ℕ, Bool, true, false, if◌then◌else◌, List, [], ◌∷◌, ◌++◌, Option, Some, None, fold, take, drop, length, replicate, slice_index_or}
use Rattle.std.specs.List.{FoldsTo, find, flat_map, list_any}
use Rattle.std.specs.Option.{option_map}
use Rattle.qtc_future.specs.declared.replies.Outcome.{Outcome}
use Rattle.qtc_chain.specs.declared.cont_state.Attach.{Attach}
use Rattle.qtc_chain.specs.declared.cont_state.Attach.TheVariants.{RunNow, Refused}
use Rattle.qtc_chain.specs.declared.all_state.AllArrive.{AllArrive}
use Rattle.qtc_chain.specs.declared.any_state.AnyArrive.{AnyArrive}
use Rattle.qtc_chain.specs.Arrivals.{IsArrived, IsFirst}
use Rattle.qtc_chain.specs.Chains.{IsChained}
use Rattle.qtc_chain.specs.Continuing.{Cont, IsAttached, IsFinished, new_cont}

-- ---- a continuation

-- a call on a continuation, with what it was answered
pub data Told (K : Type 0) : Type 0 where
  attach : (step : K) → (answer : Attach K) → Told K
  finish : (answer : Option K) → Told K

module _ {K : Type 0} where
  abbrev pub Does : Cont K → Told K → Cont K → Type 0
  Does old (attach step answer) new = IsAttached step old new answer
  Does old (finish answer) new = IsFinished old new answer

  -- the calls one after the other, from a new continuation
  abbrev pub AreTold : List (Told K) → Cont K → Type 0
  AreTold calls last = FoldsTo Does new_cont calls last

  -- the step that was attached, where the call attaches one
  abbrev pub attached_by : Told K → List K
  attached_by (attach step answer) = step ∷ []
  attached_by (finish answer) = []

  abbrev pub to_run : Attach K → List K
  to_run (RunNow step) = step ∷ []
  to_run _ = []

  abbrev pub refused : Attach K → List K
  refused (Refused step) = step ∷ []
  refused _ = []

  abbrev pub listed : Option K → List K
  listed None = []
  listed (Some step) = step ∷ []

  -- the step that a call handed out to be run
  abbrev pub run_by : Told K → List K
  run_by (attach step answer) = to_run answer
  run_by (finish answer) = listed answer

  -- the step that a call refused
  abbrev pub refused_by : Told K → List K
  refused_by (attach step answer) = refused answer
  refused_by (finish answer) = []

  abbrev pub is_finish : Told K → Bool
  is_finish (attach step answer) = false
  is_finish (finish answer) = true

  -- what came out to be run is the first step that was attached, once, where the future has finished; it waits where it has
  -- not; and every other step was refused
  pub record RunsFirst (calls : List (Told K)) (last : Cont K) : Type 0 where
    pub run : flat_map run_by calls ≡ (if last.finished then take 1 (flat_map attached_by calls) else [])
    pub waits : listed last.waiting ≡ (if last.finished then [] else take 1 (flat_map attached_by calls))
    pub others : flat_map refused_by calls ≡ drop 1 (flat_map attached_by calls)
    pub finished : last.finished ≡ list_any is_finish calls

-- so it is whatever was called, in whatever order
abbrev pub StepsRunOnce : Type 0 → Type 0
StepsRunOnce K = (calls : List (Told K)) (last : Cont K) → AreTold calls last → RunsFirst calls last

-- ---- arrivals

-- an arrival, with what it was answered
pub record AtAll (T : Type 0) : Type 0 where
  pub index : ℕ
  pub value : T
  pub answer : AllArrive T

pub record AtAny (T : Type 0) : Type 0 where
  pub index : ℕ
  pub value : T
  pub answer : AnyArrive T

module _ {T : Type 0} where
  abbrev pub Arrives : List (Option T) → AtAll T → List (Option T) → Type 0
  Arrives old call new = (call.index < length old) × IsArrived call.index call.value old new call.answer

  abbrev pub ArrivesFirst : Option (ℕ × T) → AtAny T → Option (ℕ × T) → Type 0
  ArrivesFirst old call new = IsFirst call.index call.value old new call.answer

  -- the value that arrived first at an index
  abbrev pub first_at : ℕ → List (AtAll T) → Option T
  first_at index calls = option_map (λ call. call.value) (find (λ call. call.index == index) calls)

  -- the first arrival of all
  abbrev pub first_of : List (AtAny T) → Option (ℕ × T)
  first_of [] = None
  first_of (call ∷ calls) = Some (call.index, call.value)

-- at each index stands what arrived there first, whatever arrived, in whatever order
abbrev pub FirstArrivalsCount : Type 0 → Type 0
FirstArrivalsCount T =
    (n : ℕ) (calls : List (AtAll T)) (last : List (Option T)) → FoldsTo Arrives (replicate n None) calls last
    → (index : ℕ) → index < n → slice_index_or last index None ≡ first_at index calls

-- what is kept is the first arrival
abbrev pub FirstArrivalCounts : Type 0 → Type 0
FirstArrivalCounts T =
    (calls : List (AtAny T)) (last : Option (ℕ × T)) → FoldsTo ArrivesFirst None calls last → last ≡ first_of calls

-- ---- chains

-- where each step gives just what a function says of it, a chain gives the fold of that function
abbrev pub AreFolds : {V K : Type 0} → (K → Outcome V → Outcome V → Type 0) → Type 0
AreFolds {V} {K} gives =
    (f : Outcome V → K → Outcome V)
    → ((step : K) (before after : Outcome V) → gives step before after → after ≡ f before step)
    → (first : Outcome V) (steps : List K) (last : Outcome V) → IsChained gives first steps last → last ≡ fold f first steps

-- a chain that goes on with more steps is the one chain and then the other
abbrev pub GoOn : {V K : Type 0} → (K → Outcome V → Outcome V → Type 0) → Type 0
GoOn {V} {K} gives =
    (first last : Outcome V) (steps more : List K) → IsChained gives first (steps ++ more) last
    → (between : Outcome V) × IsChained gives first steps between × IsChained gives between more last

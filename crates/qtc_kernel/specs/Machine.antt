-- What an engine does, event by event, without threads: whoever works on it claims ranges of indexes, calls the
-- function on each index of a range, and reports what it kept, or that an item was bad. (After Qt's IterateKernel;
-- own.)
use Rattle.std.specs.Prelude.{ℕ, ◌+◌, ◌-◌, ◌==◌, ◌&&◌, nat_le, nat_lt, not, Bool, true, false, if◌then◌else◌, List, [], ◌∷◌, ◌++◌, filter, fold, is_none, Option, Some, None}
use Rattle.std.specs.List.{list_any}
use Rattle.qtc_base.specs.Limits.{most_block}
use Rattle.qtc_base.specs.Ranges.{clip}
use Rattle.qtc_future.specs.Future.{Future, new_future}
use Rattle.qtc_future.specs.Steps.{Told, Accepted, Stepped, step}
use Rattle.qtc_future.specs.declared.requests.Request.{Request}
use Rattle.qtc_future.specs.declared.requests.Request.TheVariants as request
use Rattle.qtc_kernel.specs.Workload.{Workload, first_bad, indexes_of, item_at, size_of, texts_in}

-- what became of a claimed range: the future took its values; or it did not, as Canceled or Finished stood; or an item
-- of the range was bad
pub data Fate : Type 0 where
  accepted : Fate
  dropped : Fate
  failed : Fate

pub record Settled : Type 0 where
  pub range : ℕ × ℕ
  pub fate : Fate

pub record Engine : Type 0 where
  -- the number at which the next claim begins
  pub next : ℕ
  -- the claimed ranges that are still worked on
  pub out : List (ℕ × ℕ)
  -- the others, in the order in which they came back
  pub settled : List Settled
  -- the indexes that the function was called on
  pub called : List ℕ
  pub future : Future (List ℕ)

-- an engine that nobody has worked on; a threshold of 0 is none
abbrev pub new_engine : Bool → (cancel_after suspend_after : ℕ) → Engine
new_engine filter cancel_after suspend_after = record {
  next = 0;
  out = [];
  settled = [];
  called = [];
  future = new_future filter cancel_after suspend_after;
}

-- what is done to an engine; callers of its future have numbers
pub data Event : Type 0 where
  -- a look at the counter or at the flags
  look : Event
  claim : (size : ℕ) → Event
  -- the values of a range
  report : (caller : ℕ) → (range : ℕ × ℕ) → Event
  -- that the item at an index of a range is bad
  fail : (caller : ℕ) → (range : ℕ × ℕ) → (index : ℕ) → Event
  -- a call on the future that carries no result: start, suspend, resume, report suspended, cancel or finish
  ask : (caller : ℕ) → Request (List ℕ) → Event

-- the sizes that a claim may have
abbrev pub is_size : ℕ → Bool
is_size size = nat_le 1 size && nat_le size most_block

abbrev pub is_same : ℕ × ℕ → ℕ × ℕ → Bool
is_same a b = (a.0 == b.0) && (a.1 == b.1)

abbrev pub is_out : Engine → ℕ × ℕ → Bool
is_out engine range = list_any (is_same range) engine.out

-- the range, unless it is empty
abbrev pub unless_empty : ℕ × ℕ → List (ℕ × ℕ)
unless_empty range = if nat_lt range.0 range.1 then range ∷ [] else []

-- `size` numbers more are claimed, of which those below the number of items are to be worked on
abbrev pub with_claim : Workload → Engine → ℕ → Engine
with_claim work engine size = record engine {
  next = engine.next + size;
  out = engine.out ++ unless_empty (clip engine.next size (size_of work));
}

-- a range comes back after the function was called on these indexes
abbrev pub with_settled : Engine → ℕ × ℕ → Fate → List ℕ → Future (List ℕ) → Engine
with_settled engine range fate indexes future = record engine {
  out = filter (λ other. not (is_same range other)) engine.out;
  settled = engine.settled ++ record { range = range; fate = fate } ∷ [];
  called = engine.called ++ indexes;
  future = future;
}

abbrev pub fate_of : Told → Fate
fate_of (Accepted added reached) = accepted
fate_of _ = dropped

-- what the future makes of the values of a range
abbrev pub reporting : Workload → Engine → ℕ → ℕ × ℕ → Stepped (List ℕ)
reporting work engine caller range =
    step engine.future caller (request.ReportBatch range.0 (texts_in work range) (range.1 - range.0))

abbrev pub with_report : Workload → Engine → ℕ → ℕ × ℕ → Engine
with_report work engine caller range = let stepped = reporting work engine caller range in
    with_settled engine range (fate_of stepped.told) (indexes_of range) stepped.future

-- the function was called up to the bad item
abbrev pub with_failure : Workload → Engine → ℕ → ℕ × ℕ → ℕ → Engine
with_failure work engine caller range index =
    with_settled engine range failed (indexes_of (range.0, index + 1))
    (step engine.future caller (request.Fail index (item_at work index))).future

abbrev pub is_index : ℕ → Option ℕ → Bool
is_index index None = false
is_index index (Some first) = index == first

-- the item at the index is the first bad one of the range
abbrev pub is_first_bad : Workload → ℕ × ℕ → ℕ → Bool
is_first_bad work range index = is_index index (first_bad work range)

abbrev pub is_steering : Request (List ℕ) → Bool
is_steering request.Start = true
is_steering (request.SetSuspended on) = true
is_steering request.ReportSuspended = true
is_steering request.Cancel = true
is_steering request.Finish = true
is_steering _ = false

-- ---- the conditions

abbrev pub may_claim : ℕ → Bool
may_claim size = is_size size

abbrev pub may_report : Workload → Engine → ℕ × ℕ → Bool
may_report work engine range = is_out engine range && is_none (first_bad work range)

abbrev pub may_fail : Workload → Engine → ℕ × ℕ → ℕ → Bool
may_fail work engine range index = is_out engine range && is_first_bad work range index

abbrev pub may_ask : Request (List ℕ) → Bool
may_ask asked = is_steering asked

-- the engine after an event; one whose condition doesn't hold changes nothing
abbrev pub after : Workload → Engine → Event → Engine
after work engine look = engine
after work engine (claim size) = if may_claim size then with_claim work engine size else engine
after work engine (report caller range) =
    if may_report work engine range then with_report work engine caller range else engine
after work engine (fail caller range index) =
    if may_fail work engine range index then with_failure work engine caller range index else engine
after work engine (ask caller asked) =
    if may_ask asked then record engine { future = (step engine.future caller asked).future } else engine

-- the engine after a list of events
abbrev pub run_from : Workload → Engine → List Event → Engine
run_from work engine events = fold (after work) engine events

-- the modes and thresholds of a run
pub record Mode : Type 0 where
  pub filter : Bool
  pub cancel_after : ℕ
  pub suspend_after : ℕ

abbrev pub run_of : Workload → Mode → List Event → Engine
run_of work mode events = run_from work (new_engine mode.filter mode.cancel_after mode.suspend_after) events

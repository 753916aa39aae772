-- What is said of an engine after a list of events. (Own.)
use Rattle.std.specs.Prelude.{◌≡◌, ◌+◌, ◌<◌, ◌≤◌, ◌⊎◌, ℕ, Bool, true, false, List, [], ◌∷◌, ◌++◌, Contains, map, filter, count_by, ◌==◌}
use Rattle.qtc_store.specs.Batches.{end_of}
use Rattle.qtc_store.specs.declared.batch.Batch.{Batch}
use Rattle.qtc_future.specs.Future.{Future, flags_of, reports_of}
use Rattle.qtc_kernel.specs.Machine.{Engine, Event, Fate, accepted, after, claim, fail, report}
use Rattle.qtc_kernel.specs.Workload.{Workload, size_of, texts_in}

-- ---- ranges

abbrev pub range_of : Batch (List ℕ) → ℕ × ℕ
range_of batch = (batch.begin, end_of batch)

abbrev pub is_taken : Fate → Bool
is_taken accepted = true
is_taken _ = false

-- the ranges whose values the future took, in the order in which it took them
abbrev pub accepted_ranges : Engine → List (ℕ × ℕ)
accepted_ranges engine = map (λ settled. settled.range) (filter (λ settled. is_taken settled.fate) engine.settled)

-- the ranges that were claimed so far, still worked on or not
abbrev pub claimed_ranges : Engine → List (ℕ × ℕ)
claimed_ranges engine = engine.out ++ map (λ settled. settled.range) engine.settled

-- the ranges of the batches that a future took
abbrev pub reported_ranges : Future (List ℕ) → List (ℕ × ℕ)
reported_ranges future = map range_of (reports_of future.calls)

-- how often an index was called
abbrev pub times_called : List ℕ → ℕ → ℕ
times_called called index = count_by (λ call. call == index) called

-- the batch has what is kept of the items of its range
abbrev pub HasTexts : Workload → Batch (List ℕ) → Type 0
HasTexts work batch = batch.values ≡ texts_in work (range_of batch)

-- the range is as long as one of the sizes, or ends at n and is shorter than one
pub record IsBlock (n : ℕ) (sizes : List ℕ) (range : ℕ × ℕ) : Type 0 where
  pub size : ℕ
  pub listed : Contains sizes size
  pub length_is : (range.1 ≡ range.0 + size) ⊎ ((range.1 ≡ n) × (range.1 < range.0 + size))

-- ---- events

-- each claim has one of the sizes
abbrev pub HasSize : List ℕ → Event → Type 0
HasSize sizes (claim size) = Contains sizes size
HasSize sizes _ = Unit {0}

-- a report or a failure that comes where Finished stands
abbrev pub is_late : Engine → Event → Bool
is_late engine (report caller range) = (flags_of engine.future).finished
is_late engine (fail caller range index) = (flags_of engine.future).finished
is_late engine _ = false

-- no report and no failure comes after a finish
abbrev pub AreInTime : Workload → Engine → List Event → Type 0
AreInTime work engine [] = Unit {0}
AreInTime work engine (event ∷ events) =
    (is_late engine event ≡ false) × AreInTime work (after work engine event) events

-- ---- a run that came to its end

-- all is claimed, nothing is worked on any more, and Canceled does not stand
pub record IsThrough (work : Workload) (engine : Engine) : Type 0 where
  pub claimed : size_of work ≤ engine.next
  pub back : engine.out ≡ []
  pub going : (flags_of engine.future).canceled ≡ false

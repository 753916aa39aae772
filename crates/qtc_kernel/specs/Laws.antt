-- What follows for every list of events, in any order. (Own.)
use Rattle.std.specs.Prelude.{◌≡◌, ◌<◌, ◌≤◌, ℕ, min, List, [], All, Some, IsTrue}
use Rattle.qtc_base.specs.Limits.{most_end}
use Rattle.qtc_base.specs.Ranges.{Tiles, times_covered}
use Rattle.qtc_store.specs.Stored.{IsFirstResults}
use Rattle.qtc_future.specs.Future.{failure_of, flags_of, reports_of, results_of}
use Rattle.qtc_future.specs.Legal.{IsLegal}
use Rattle.qtc_future.specs.declared.replies.Failure.{Failure}
use Rattle.qtc_kernel.specs.Machine.{Event, Mode, after, new_engine, report, run_of}
use Rattle.qtc_kernel.specs.Runs.{AreInTime, HasSize, HasTexts, IsBlock, IsThrough, accepted_ranges, claimed_ranges, reported_ranges, times_called}
use Rattle.qtc_kernel.specs.Workload.{Suits, Workload, bad_indexes, item_at, kept_texts, size_of}
use Rattle.qtc_ops.specs.ItemValue.{bad}

-- the ranges still worked on and those that came back are disjoint, and tile what was claimed
abbrev pub RangesTile : Type 0
RangesTile = (work : Workload) (mode : Mode) (events : List Event) → let engine = run_of work mode events in
    Tiles (claimed_ranges engine) (min engine.next (size_of work))

-- no index is called twice, and none past the last
pub record AreCalledOnce (work : Workload) (called : List ℕ) : Type 0 where
  pub once : (index : ℕ) → times_called called index ≤ 1
  pub none : (index : ℕ) → size_of work ≤ index → times_called called index ≡ 0

abbrev pub NoIndexIsCalledTwice : Type 0
NoIndexIsCalledTwice = (work : Workload) (mode : Mode) (events : List Event) →
    AreCalledOnce work (run_of work mode events).called

-- each batch that the future took has the texts of its range, which was claimed, and whose indexes were called
pub record BatchesAreRight (work : Workload) (mode : Mode) (events : List Event) : Type 0 where
  pub texts : All (HasTexts work) (reports_of (run_of work mode events).future.calls)
  pub ranges : reported_ranges (run_of work mode events).future ≡ accepted_ranges (run_of work mode events)
  pub called : (index : ℕ) → times_covered (accepted_ranges (run_of work mode events)) index
      ≤ times_called (run_of work mode events).called index

abbrev pub AcceptedBatchesAreRight : Type 0
AcceptedBatchesAreRight = (work : Workload) (mode : Mode) (events : List Event) → BatchesAreRight work mode events

-- a claimed range has the length of one of the claims, or is shorter than one where it ends with the items
abbrev pub RangesAreBlocks : Type 0
RangesAreBlocks = (work : Workload) (mode : Mode) (sizes : List ℕ) (events : List Event) →
    All (HasSize sizes) events → All (IsBlock (size_of work) sizes) (claimed_ranges (run_of work mode events))

-- after Canceled no report has an effect
abbrev pub NothingIsTakenAfterCancel : Type 0
NothingIsTakenAfterCancel =
    (work : Workload) (mode : Mode) (events : List Event) (caller : ℕ) (range : ℕ × ℕ) →
    let engine = run_of work mode events in IsTrue (flags_of engine.future).canceled →
    (after work engine (report caller range)).future ≡ engine.future

-- a failure that the future keeps is that of a bad item
pub record IsFailing (work : Workload) (failure : Failure) : Type 0 where
  pub within : failure.index < size_of work
  pub bad_value : work.value (item_at work failure.index) ≡ bad
  pub item_is : failure.item ≡ item_at work failure.index

abbrev pub FailuresAreBadItems : Type 0
FailuresAreBadItems = (work : Workload) (mode : Mode) (events : List Event) (failure : Failure) →
    failure_of (run_of work mode events).future ≡ Some failure → IsFailing work failure

-- the future's calls are a legal list
abbrev pub FuturesAreLegal : Type 0
FuturesAreLegal = (work : Workload) (mode : Mode) (events : List Event) → Suits mode.filter work →
    IsLegal (run_of work mode events).future

-- the sequential answer: all of the kept texts are the results, no item is bad, each index was called once, and the
-- batches tile the items
pub record IsSequential (work : Workload) (mode : Mode) (events : List Event) : Type 0 where
  pub results : IsFirstResults (results_of (run_of work mode events).future) (kept_texts work)
  pub good : bad_indexes work ≡ []
  pub called : (index : ℕ) → index < size_of work → times_called (run_of work mode events).called index ≡ 1
  pub tiled : Tiles (reported_ranges (run_of work mode events).future) (size_of work)

abbrev pub WholeRunsAreSequential : Type 0
WholeRunsAreSequential = (work : Workload) (mode : Mode) (events : List Event) →
    Suits mode.filter work → size_of work ≤ most_end → IsThrough work (run_of work mode events) →
    AreInTime work (new_engine mode.filter mode.cancel_after mode.suspend_after) events →
    IsSequential work mode events

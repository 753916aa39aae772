-- What a future comes to, what a late watcher is told, and kinds of calls. (After QFuture and QFutureWatcher; own.)
use Rattle.std.specs.Prelude.{◌≡◌, Bool, true, false, List, Option, None, Some, IsTrue}
use Rattle.qtc_events.specs.Flags.{flags_in}
use Rattle.qtc_events.specs.Replay.{replayed}
use Rattle.qtc_events.specs.declared.calls.Call.{Call}
use Rattle.qtc_events.specs.declared.calls.Call.TheVariants.{Start, Report, Cancel, Fail, Finish}
use Rattle.qtc_events.specs.declared.events.Event.{Event}
use Rattle.qtc_events.specs.declared.flags.Flags.{Flags}
use Rattle.qtc_store.specs.Stored.{ranges_of, IsFirstResults}
use Rattle.qtc_future.specs.Future.{Future, flags_of, failure_of, results_of}
use Rattle.qtc_future.specs.Steps.{has_ended}
use Rattle.qtc_future.specs.declared.replies.Outcome.{Outcome}
use Rattle.qtc_future.specs.declared.replies.Outcome.TheVariants.{Values, Failed, Canceled}

abbrev pub replay_of : {V : Type 0} → Future V → List Event
replay_of future = replayed (flags_of future) (ranges_of (results_of future))

-- the failure where there is one, else that it was canceled, else its first results
abbrev pub IsOutcome : {V : Type 0} → Future V → Outcome V → Type 0
IsOutcome future (Failed failure) = failure_of future ≡ Some failure
IsOutcome future Canceled = (failure_of future ≡ None) × IsTrue (flags_of future).canceled
IsOutcome future (Values values) =
    (failure_of future ≡ None) × ((flags_of future).canceled ≡ false) × IsFirstResults (results_of future) values

-- the flags where Canceled or Finished stands, and else none
abbrev pub IsEnd : {V : Type 0} → Future V → Option Flags → Type 0
IsEnd future (Some flags) = IsTrue (has_ended future) × (flags_in flags.bits ≡ flags_of future)
IsEnd future None = has_ended future ≡ false

-- calls for which room is kept, and which carry nothing
abbrev pub is_free : Call → Bool
is_free Start = true
is_free Cancel = true
is_free Finish = true
is_free _ = false

-- calls that carry nothing
abbrev pub is_plain : Call → Bool
is_plain (Report begin kept total) = false
is_plain (Fail index) = false
is_plain _ = true

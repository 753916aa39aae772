-- Futures that are finished as they are made. (After Qt's makeReadyValueFuture; own.)
use Rattle.std.specs.Prelude.{◌≡◌, ◌<◌, ◌≤◌, ℕ, false, List, Result, Ok, Err, length}
use Rattle.qtc_base.specs.Limits.{most_end}
use Rattle.qtc_future.specs.Future.{Future, new_future}
use Rattle.qtc_future.specs.Steps.{step}
use Rattle.qtc_future.specs.declared.requests.Request.TheVariants.{Start, ReportBatch, Finish}
use Rattle.qtc_shared.specs.Parts.{Terms}
use Rattle.qtc_shared.specs.Passes.{FutureId, PassState, pass_at}
use Rattle.qtc_tasks.specs.declared.readying.ReadyFault.{ReadyFault}
use Rattle.qtc_tasks.specs.declared.readying.ReadyFault.TheVariants.{PastEnd, Memory}

-- a new future in plain mode after three calls of its first pass: a start, a report of all values from 0 on, and a finish
abbrev pub ready_core : {V : Type 0} → List V → Future V
ready_core values =
    let started = (step (new_future false 0 0) 0 Start).future in
    let reported = (step started 0 (ReportBatch 0 values (length values))).future in
    (step reported 0 Finish).future

-- the future is in plain mode, without thresholds, and its first pass, which alone may report, knows just these calls
pub record IsReadyFuture {V : Type 0} (values : List V) (future : FutureId) (pass : PassState V) : Type 0 where
  pub terms : future.terms ≡ record { filter = false; thresholds = record { cancel_after = 0; suspend_after = 0 }; makers = 1 }
  pub pass_is : pass ≡ pass_at future 0 (ready_core values).calls

-- there are more values than a future takes where that is told, and else there are not
abbrev pub TellsPastEnd : {X : Type 0} → ℕ → Result X ReadyFault → Type 0
TellsPastEnd count (Ok made) = count ≤ most_end
TellsPastEnd count (Err PastEnd) = most_end < count
TellsPastEnd count (Err Memory) = count ≤ most_end

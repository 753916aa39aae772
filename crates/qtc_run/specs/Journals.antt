-- What the journal of a job says of how it began and ended. (After QFutureInterface; own.)
use Rattle.std.specs.Prelude.{◌≡◌, ◌<◌, ◌≤◌, ℕ, Bool, true, false, List, [], ◌∷◌, ◌++◌}
use Rattle.qtc_events.specs.Journal.{IsOpenedAndFinished as AreOpenedAndFinished, accounted, calls_in}
use Rattle.qtc_events.specs.declared.calls.Call.{Call}
use Rattle.qtc_events.specs.declared.calls.Call.TheVariants.{Cancel, Fail, Finish}
use Rattle.qtc_events.specs.declared.entries.Entry.{Entry}
use Rattle.qtc_events.specs.declared.entries.Reached.{Reached}
use Rattle.qtc_events.specs.declared.entries.Reached.TheVariants.{Cancel as ReachedCancel}
use Rattle.qtc_future.specs.declared.replies.Outcome.{Outcome}
use Rattle.qtc_future.specs.declared.replies.Outcome.TheVariants.{Failed}

-- a job with items: it begins with a start and ends with a finish
abbrev pub IsOpenedAndFinished : List Entry → Type 0
IsOpenedAndFinished journal = AreOpenedAndFinished (calls_in journal)

-- the call that passes an outcome on
abbrev pub passing_call : Outcome (List ℕ) → Call
passing_call (Failed failure) = Fail failure.index
passing_call _ = Cancel

-- a job that passes an outcome on: its future is never started
abbrev pub IsPassingOn : Outcome (List ℕ) → List Entry → Type 0
IsPassingOn outcome journal = calls_in journal ≡ passing_call outcome ∷ Finish ∷ []

-- ---- what cancels

-- neither the call nor the threshold that it reached cancels
abbrev pub cancels : Call → Bool
cancels Cancel = true
cancels (Fail index) = true
cancels _ = false

abbrev pub cancels_by_threshold : Reached → Bool
cancels_by_threshold ReachedCancel = true
cancels_by_threshold _ = false

pub record LetsGoOn (entry : Entry) : Type 0 where
  pub call : cancels entry.call ≡ false
  pub threshold : cancels_by_threshold entry.reached ≡ false

-- an entry reached the threshold to cancel: before it fewer results were accounted for, and with it no fewer
pub record ReachesCancel (cancel_after : ℕ) (journal : List Entry) : Type 0 where
  pub before : List Entry
  pub entry : Entry
  pub after : List Entry
  pub parts : journal ≡ before ++ entry ∷ after
  pub reached : entry.reached ≡ ReachedCancel
  pub fewer : accounted before < cancel_after
  pub enough : cancel_after ≤ accounted (before ++ entry ∷ [])

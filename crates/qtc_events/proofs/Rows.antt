-- The nine rows of the table of calls, split once: what calls that do no work leave alone, and which calls can set
-- Canceled or Finished.
use Rattle.std.proofs.Common.{◌≡◌, false, ◌||◌, refl, ◌∙◌, sym, ap}
use Rattle.qtc_base.proofs.SharedLemmas.{or-group, or-none, or-true}
use Rattle.qtc_events.specs.Flags.{Standing}
use Rattle.qtc_events.specs.Calls.{row, after_call, after_acting, acts_as, after, cancels, cancels_by_threshold, finishes, is_fail, is_makers, is_report}
use Rattle.qtc_events.specs.declared.calls.Call.{Call}
use Rattle.qtc_events.specs.declared.calls.Call.TheVariants.{Start, Report, Account, Suspend, Resume, ReportSuspended, Cancel, Fail, Finish}
use Rattle.qtc_events.specs.declared.entries.Reached.{Reached}
use Rattle.qtc_events.specs.declared.entries.Reached.TheVariants.{Nothing, Suspend as ReachedSuspend, Cancel as ReachedCancel}

-- a call that isn't one of the makers' reports, counts, fails and finishes nothing
pub record DoesNoWork (call : Call) : Type 0 where
  pub report : is_report call ≡ false
  pub counts : (row call).counts ≡ 0
  pub fail : is_fail call ≡ false
  pub finish : finishes call ≡ false

pub no_work : (call : Call) → is_makers call ≡ false → DoesNoWork call
no_work Start e = record { report = refl; counts = refl; fail = refl; finish = refl }
no_work (Report begin kept total) e = cc
no_work (Account total) e = cc
no_work Suspend e = record { report = refl; counts = refl; fail = refl; finish = refl }
no_work Resume e = record { report = refl; counts = refl; fail = refl; finish = refl }
no_work ReportSuspended e = record { report = refl; counts = refl; fail = refl; finish = refl }
no_work Cancel e = record { report = refl; counts = refl; fail = refl; finish = refl }
no_work (Fail index) e = cc
no_work Finish e = cc

canceled_by_call : (s : Standing) (call : Call) → (after_call s call).canceled ≡ (s.canceled || cancels call)
canceled_by_call s Start = sym (or-none s.canceled)
canceled_by_call s (Report begin kept total) = sym (or-none s.canceled)
canceled_by_call s (Account total) = sym (or-none s.canceled)
canceled_by_call s Suspend = sym (or-none s.canceled)
canceled_by_call s Resume = sym (or-none s.canceled)
canceled_by_call s ReportSuspended = sym (or-none s.canceled)
canceled_by_call s Cancel = sym (or-true s.canceled)
canceled_by_call s (Fail index) = sym (or-true s.canceled)
canceled_by_call s Finish = sym (or-none s.canceled)

canceled_by_threshold : (s : Standing) (reached : Reached) → (after_acting s (acts_as reached)).canceled ≡ (s.canceled || cancels_by_threshold reached)
canceled_by_threshold s Nothing = sym (or-none s.canceled)
canceled_by_threshold s ReachedSuspend = sym (or-none s.canceled)
canceled_by_threshold s ReachedCancel = sym (or-true s.canceled)

-- Canceled stands where it stood, and where the call or the threshold that it reached cancels
pub canceled_after : (s : Standing) (call : Call) (reached : Reached) → (after s call reached).canceled ≡ (s.canceled || (cancels call || cancels_by_threshold reached))
canceled_after s call reached =
    canceled_by_threshold (after_call s call) reached
    ∙ ap (λ b. b || cancels_by_threshold reached) (canceled_by_call s call)
    ∙ sym (or-group s.canceled (cancels call) (cancels_by_threshold reached))

finished_by_call : (s : Standing) (call : Call) → (after_call s call).finished ≡ (s.finished || finishes call)
finished_by_call s Start = sym (or-none s.finished)
finished_by_call s (Report begin kept total) = sym (or-none s.finished)
finished_by_call s (Account total) = sym (or-none s.finished)
finished_by_call s Suspend = sym (or-none s.finished)
finished_by_call s Resume = sym (or-none s.finished)
finished_by_call s ReportSuspended = sym (or-none s.finished)
finished_by_call s Cancel = sym (or-none s.finished)
finished_by_call s (Fail index) = sym (or-none s.finished)
finished_by_call s Finish = sym (or-true s.finished)

finished_by_threshold : (s : Standing) (reached : Reached) → (after_acting s (acts_as reached)).finished ≡ s.finished
finished_by_threshold s Nothing = refl
finished_by_threshold s ReachedSuspend = refl
finished_by_threshold s ReachedCancel = refl

-- Finished stands where it stood, and where the call finishes
pub finished_after : (s : Standing) (call : Call) (reached : Reached) → (after s call reached).finished ≡ (s.finished || finishes call)
finished_after s call reached = finished_by_threshold (after_call s call) reached ∙ finished_by_call s call

-- How many passes of its own an engine has, what these may call, and with which calls the journal of its future begins:
-- what holds of each kind and of each plan. (Own.)
use Rattle.std.specs.Prelude.{◌+◌, ◌||◌, ◌&&◌, nat_lt, not, ℕ, Bool, true, false, List, [], ◌∷◌, map}
use Rattle.qtc_events.specs.declared.calls.Call.{Call}
use Rattle.qtc_events.specs.declared.calls.Call.TheVariants.{Start, Report, Account, Resume, ReportSuspended, Cancel, Fail, Finish}
use Rattle.qtc_events.specs.declared.entries.Entry.{Entry}
use Rattle.qtc_events.specs.declared.entries.Reached.TheVariants.{Nothing}
use Rattle.qtc_future.specs.Future.{Logged}
use Rattle.qtc_shared.specs.Parts.{Terms}
use Rattle.qtc_kernel.specs.declared.kinds.Kind.{Kind}
use Rattle.qtc_kernel.specs.declared.kinds.Kind.TheVariants.{Mapped, Filtered, MappedReduced, FilteredReduced}

-- ---- kinds

-- whether the results are one visible list
abbrev pub is_filter : Kind → Bool
is_filter Mapped = false
is_filter Filtered = true
is_filter MappedReduced = false
is_filter FilteredReduced = false

-- whether an item may be dropped
abbrev pub drops_items : Kind → Bool
drops_items Mapped = false
drops_items Filtered = true
drops_items MappedReduced = false
drops_items FilteredReduced = true

-- whether the kept texts are folded into one result
abbrev pub is_reduced : Kind → Bool
is_reduced Mapped = false
is_reduced Filtered = false
is_reduced MappedReduced = true
is_reduced FilteredReduced = true

-- ---- how many passes

-- beside those of the workers: in the plain kinds the board's, which reports for all of them
abbrev pub board_passes : Kind → ℕ
board_passes Mapped = 1
board_passes Filtered = 1
board_passes MappedReduced = 0
board_passes FilteredReduced = 0

-- the passes that may report, fail and finish: one for each worker, and the board's
abbrev pub own_passes : Kind → ℕ → ℕ
own_passes kind workers = workers + board_passes kind

-- what the future of an engine is made with
abbrev pub plan_terms : Kind → (cancel_after suspend_after workers : ℕ) → Terms
plan_terms kind cancel_after suspend_after workers = record {
  filter = is_filter kind;
  thresholds = record { cancel_after = cancel_after; suspend_after = suspend_after };
  makers = own_passes kind workers;
}

-- ---- how a journal begins

-- the calls with which each engine's future begins
abbrev pub opening_calls : List Call
opening_calls = Start ∷ []

-- an entry of caller 0, with which a future starts
abbrev pub own_entry : Call → Entry
own_entry call = record { caller = 0; call = call; reached = Nothing }

abbrev pub opening : List (Logged (List ℕ))
opening = map (λ call. record { entry = own_entry call; values = []; item = [] }) opening_calls

-- ---- what they call

-- a number of results suspends the future, so that whoever reports may have to say that the work stands still, and resume
abbrev pub suspends : Terms → Bool
suspends terms = nat_lt 0 terms.thresholds.suspend_after

-- the pass of a desk, in turns: in the reduced kinds it accounts for its blocks
abbrev pub desk_makes : Kind → Terms → Call → Bool
desk_makes kind terms Start = true
desk_makes kind terms Cancel = true
desk_makes kind terms (Fail index) = true
desk_makes kind terms (Account total) = is_reduced kind
desk_makes kind terms ReportSuspended = is_reduced kind && suspends terms
desk_makes kind terms Resume = is_reduced kind && suspends terms
desk_makes kind terms _ = false

-- the board's pass, in the plain kinds
abbrev pub board_makes : Terms → Call → Bool
board_makes terms (Report begin kept total) = true
board_makes terms Cancel = true
board_makes terms ReportSuspended = suspends terms
board_makes terms Resume = suspends terms
board_makes terms _ = false

-- the pass of the desk that ends the engine: in the reduced kinds it reports the text of the reduction before
abbrev pub end_makes : Kind → Terms → Call → Bool
end_makes kind terms Finish = true
end_makes kind terms (Report begin kept total) = is_reduced kind
end_makes kind terms ReportSuspended = is_reduced kind && suspends terms
end_makes kind terms Resume = is_reduced kind && suspends terms
end_makes kind terms _ = false

-- any pass of the engine's own
abbrev pub engine_makes : Kind → Terms → Call → Bool
engine_makes kind terms call =
    desk_makes kind terms call || ((not (is_reduced kind) && board_makes terms call) || end_makes kind terms call)

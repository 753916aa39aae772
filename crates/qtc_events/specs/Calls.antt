-- The table of calls of a future: one row a call. (After QFutureInterface and QPromise; each condition, change and order
-- is own.)
use Rattle.std.specs.Prelude.{ℕ, ◌+◌, Bool, true, false, not, ◌&&◌, nat_lt, nat_le, if◌then◌else◌, Option, None, Some, List, [], ◌∷◌, min}
use Rattle.std.specs.List.{list_all, list_any}
use Rattle.qtc_events.specs.Flags.{Flag, Standing, Running, Started, Finished, Canceled, Suspending, Suspended, Pending, stands, put_all}
use Rattle.qtc_events.specs.declared.calls.Call.{Call}
use Rattle.qtc_events.specs.declared.calls.Call.TheVariants.{Start, Report, Account, Suspend, Resume, ReportSuspended, Cancel, Fail, Finish}
use Rattle.qtc_events.specs.declared.entries.Reached.{Reached}
use Rattle.qtc_events.specs.declared.entries.Reached.TheVariants.{Nothing, Suspend as ReachedSuspend, Cancel as ReachedCancel}
use Rattle.qtc_events.specs.declared.events.Event.{Event}
use Rattle.qtc_events.specs.declared.events.Event.TheVariants.{Started as ToldStarted, Ready, Suspending as ToldSuspending, Suspended as ToldSuspended, Resumed as ToldResumed, Canceled as ToldCanceled, Finished as ToldFinished}

pub record Row : Type 0 where
  -- has an effect only where none of these stands,
  pub none_of : List Flag
  -- one of these does, where there are any,
  pub one_of : List Flag
  -- and the call covers something, where it is to
  pub covers : Bool
  -- what an effect clears, and then sets
  pub clears : List Flag
  pub sets : List Flag
  -- what it posts, in filter mode or in plain mode, where there were so many results before and are so many after
  pub posts : Bool → ℕ → ℕ → Option Event
  -- what it adds to the results that are accounted for
  pub counts : ℕ

-- the event of newly ready results, where there are any
abbrev pub ready : ℕ → ℕ → Option Event
ready begin end = if nat_lt begin end then Some (Ready begin end) else None

-- what a report makes ready: in filter mode the positions that the results grew by, in plain mode what it covers
abbrev pub report_ready : (begin total : ℕ) → Bool → (old_count new_count : ℕ) → Option Event
report_ready begin total filter old_count new_count =
    if filter then ready old_count new_count else ready begin (begin + total)

abbrev pub row : Call → Row
row Start = record {
  none_of = Started ∷ Canceled ∷ Finished ∷ [];
  one_of = [];
  covers = true;
  clears = Pending ∷ [];
  sets = Started ∷ Running ∷ [];
  posts = λ _ _ _. Some ToldStarted;
  counts = 0;
}
row (Report begin kept total) = record {
  none_of = Canceled ∷ Finished ∷ [];
  one_of = [];
  covers = nat_lt 0 total;
  clears = [];
  sets = [];
  posts = report_ready begin total;
  counts = total;
}
row (Account total) = record {
  none_of = Canceled ∷ Finished ∷ [];
  one_of = [];
  covers = true;
  clears = [];
  sets = [];
  posts = λ _ _ _. None;
  counts = total;
}
row Suspend = record {
  none_of = Canceled ∷ Finished ∷ Suspending ∷ Suspended ∷ [];
  one_of = [];
  covers = true;
  clears = [];
  sets = Suspending ∷ [];
  posts = λ _ _ _. Some ToldSuspending;
  counts = 0;
}
row ReportSuspended = record {
  none_of = Suspended ∷ Canceled ∷ Finished ∷ [];
  one_of = Suspending ∷ [];
  covers = true;
  clears = Suspending ∷ [];
  sets = Suspended ∷ [];
  posts = λ _ _ _. Some ToldSuspended;
  counts = 0;
}
row Resume = record {
  none_of = Canceled ∷ Finished ∷ [];
  one_of = Suspending ∷ Suspended ∷ [];
  covers = true;
  clears = Suspending ∷ Suspended ∷ [];
  sets = [];
  posts = λ _ _ _. Some ToldResumed;
  counts = 0;
}
row Cancel = record {
  none_of = Canceled ∷ Finished ∷ [];
  one_of = [];
  covers = true;
  clears = Suspending ∷ Suspended ∷ [];
  sets = Canceled ∷ [];
  posts = λ _ _ _. Some ToldCanceled;
  counts = 0;
}
row (Fail index) = record {
  none_of = Canceled ∷ Finished ∷ [];
  one_of = [];
  covers = true;
  clears = Suspending ∷ Suspended ∷ [];
  sets = Canceled ∷ [];
  posts = λ _ _ _. Some ToldCanceled;
  counts = 0;
}
row Finish = record {
  none_of = Finished ∷ [];
  one_of = [];
  covers = true;
  clears = Running ∷ Pending ∷ Suspending ∷ Suspended ∷ [];
  sets = Finished ∷ [];
  posts = λ _ _ _. Some ToldFinished;
  counts = 0;
}

-- no flags are wanted, or one of them stands
abbrev pub one_stands : Standing → List Flag → Bool
one_stands s [] = true
one_stands s (flag ∷ flags) = list_any (stands s) (flag ∷ flags)

-- whether the call has an effect where these flags stand; a report also needs a store that takes it
abbrev pub has_effect : Standing → Call → Bool
has_effect s call =
    list_all (λ flag. not (stands s flag)) (row call).none_of
    && (one_stands s (row call).one_of && (row call).covers)

-- the flags after a call, without what a threshold does
abbrev pub after_call : Standing → Call → Standing
after_call s call = put_all true (put_all false s (row call).clears) (row call).sets

abbrev pub is_report : Call → Bool
is_report (Report begin kept total) = true
is_report _ = false

abbrev pub is_fail : Call → Bool
is_fail (Fail index) = true
is_fail _ = false

-- the calls that set Canceled
abbrev pub cancels : Call → Bool
cancels Cancel = true
cancels (Fail index) = true
cancels _ = false

-- the call that sets Finished
abbrev pub finishes : Call → Bool
finishes Finish = true
finishes _ = false

-- the calls of those who do the work; no other one reports, counts, fails or finishes
abbrev pub is_makers : Call → Bool
is_makers (Report begin kept total) = true
is_makers (Account total) = true
is_makers (Fail index) = true
is_makers Finish = true
is_makers _ = false

-- what a threshold that was reached acts as
abbrev pub acts_as : Reached → Option Call
acts_as Nothing = None
acts_as ReachedSuspend = Some Suspend
acts_as ReachedCancel = Some Cancel

abbrev pub cancels_by_threshold : Reached → Bool
cancels_by_threshold ReachedCancel = true
cancels_by_threshold _ = false

abbrev pub after_acting : Standing → Option Call → Standing
after_acting s None = s
after_acting s (Some call) = after_call s call

-- the flags after a call and the threshold that it reached
abbrev pub after : Standing → Call → Reached → Standing
after s call reached = after_acting (after_call s call) (acts_as reached)

abbrev pub posts_of_acting : Option Call → Option Event
posts_of_acting None = None
posts_of_acting (Some call) = (row call).posts false 0 0

-- the end of what a report covers
abbrev pub range_end : Call → ℕ
range_end (Report begin kept total) = begin + total
range_end _ = 0

-- the last number of accounted results, at which it stands still
abbrev pub most_accounted : ℕ
most_accounted = 4294967295

abbrev pub add_accounted : ℕ → Call → ℕ
add_accounted accounted call = min (accounted + (row call).counts) most_accounted

-- a threshold is passed or met, that wasn't before; 0 is none
abbrev pub reaches : ℕ → ℕ → ℕ → Bool
reaches threshold before after = nat_lt before threshold && nat_le threshold after

-- the threshold that a report or an account reaches
abbrev pub reached_of : (cancel_after suspend_after : ℕ) → Standing → (before after : ℕ) → Reached
reached_of cancel_after suspend_after s before after =
    if reaches cancel_after before after then ReachedCancel
    else if reaches suspend_after before after && has_effect s Suspend then ReachedSuspend
    else Nothing

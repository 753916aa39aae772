-- What a job adds to the journal of its future: just these calls of its pass, each with its effect. (After QPromise; own.)
use Rattle.std.specs.Prelude.{◌≡◌, ◌⊎◌, ◌<◌, ◌+◌, ◌==◌, ◌||◌, ◌↔◌, ℕ, Bool, true, false, List, [], ◌∷◌, ◌++◌, Option, None, Some, IsTrue, All, length}
use Rattle.std.specs.List.{flat_map, list_any}
use Rattle.qtc_base.specs.Limits.{most_end}
use Rattle.qtc_events.specs.Calls.{range_end}
use Rattle.qtc_events.specs.Flags.{Standing}
use Rattle.qtc_events.specs.declared.calls.Call.{Call}
use Rattle.qtc_events.specs.declared.calls.Call.TheVariants.{Start, Report, ReportSuspended, Fail, Finish}
use Rattle.qtc_future.specs.Future.{Logged}
use Rattle.qtc_shared.specs.Journals.{BeginsWith, IsJournal, calls_by, flags_at}
use Rattle.qtc_shared.specs.Laws.{is_ended}
use Rattle.qtc_shared.specs.Passes.{PassState}
use Rattle.qtc_tasks.specs.Tasks.{TaskState}
use Rattle.qtc_tasks.specs.declared.ends.TaskStop.{TaskStop}
use Rattle.qtc_tasks.specs.declared.ends.TaskStop.TheVariants.{Whole, Failed, Canceled, Refused, Memory, NotRun}

-- the start had no effect where one of these flags stood
abbrev pub is_taken : Standing → Bool
is_taken flags = flags.started || is_ended flags

abbrev pub is_canceled_stop : {T : Type 0} → TaskStop T → Bool
is_canceled_stop Canceled = true
is_canceled_stop _ = false

module _ {V : Type 0} where
  -- the call of a logged call, which carries these values and this text
  pub record IsCall (call : Call) (values : List V) (item : List ℕ) (logged : Logged V) : Type 0 where
    pub call_is : logged.entry.call ≡ call
    pub values_are : logged.values ≡ values
    pub item_is : logged.item ≡ item

  -- one value is reported, where the last batch ended
  pub record IsReport (logged : Logged V) : Type 0 where
    pub begin : ℕ
    pub value : V
    pub is : IsCall (Report begin 1 1) (value ∷ []) [] logged

  -- a call of the work: a report of one value, or that the work stands still
  abbrev pub IsWorkCall : Logged V → Type 0
  IsWorkCall logged = IsReport logged ⊎ IsCall ReportSuspended [] [] logged

  -- none, or one call
  abbrev pub AtMostOne : (Logged V → Type 0) → List (Logged V) → Type 0
  AtMostOne Is [] = Unit {0}
  AtMostOne Is (logged ∷ []) = Is logged
  AtMostOne Is _ = ⊥

  -- a report in the journal ends at the last place of a store
  abbrev pub is_full : List (Logged V) → Bool
  is_full journal = list_any (λ logged. range_end logged.entry.call == most_end) journal

  -- the fail with the task's text, where that is how it stopped and the call had an effect
  abbrev pub AreFails : {T : Type 0} → TaskStop T → Option (List ℕ) → (came : ℕ) → List (Logged V) → Type 0
  AreFails Failed (Some text) came fails = AtMostOne (IsCall (Fail came) [] text) fails
  AreFails Failed None came fails = ⊥
  AreFails _ bad came fails = fails ≡ []

  -- a start, a report for each of the values in order and between them that the work stands still, and the fail
  pub record IsTaskJournal {T : Type 0} (values : List V) (bad : Option (List ℕ)) (stop : TaskStop T) (made : List (Logged V))
      : Type 0 where
    pub start : Logged V
    pub works : List (Logged V)
    pub fails : List (Logged V)
    pub is : made ≡ start ∷ works ++ fails
    pub start_is : IsCall Start [] [] start
    pub works_are : All IsWorkCall works
    pub reported : flat_map (λ logged. logged.values) works ≡ values
    pub fails_are : AreFails stop bad (length values) fails

  abbrev pub IsMade : {T : Type 0} → (values : List V) → (bad : Option (List ℕ)) → TaskStop T → List (Logged V) → Type 0
  IsMade values bad (NotRun task) made = (values ≡ []) × (made ≡ [])
  IsMade values bad stop made = IsTaskJournal values bad stop made

  -- what is left where the job stopped
  abbrev pub IsLeft : {T : Type 0} → TaskStop T → (rest : List V) → (bad : Option (List ℕ)) → Type 0
  IsLeft Whole rest bad = (rest ≡ []) × (bad ≡ None)
  IsLeft Failed rest bad = rest ≡ []
  IsLeft Refused rest bad = rest ≡ [] → ⊥
  IsLeft _ rest bad = Unit {0}

  -- what stood in the journal before the finish
  abbrev pub Stood : {T : Type 0} → TaskStop T → List (Logged V) → Type 0
  Stood (NotRun task) journal = IsTrue (is_taken (flags_at journal))
  Stood Canceled journal = IsTrue (is_ended (flags_at journal))
  Stood Failed journal = IsTrue (is_ended (flags_at journal))
  Stood Refused journal = IsTrue (is_full journal)
  Stood _ journal = Unit {0}

  -- what the pass of a job that ended knows, of a task with these values and this failure
  pub record HasTaskJournal {T : Type 0} (task : TaskState V) (old new : PassState V) (came : ℕ) (stop : TaskStop T)
      : Type 0 where
    -- the values that came, and those that are left
    pub values : List V
    pub rest : List V
    pub left : task.left ≡ values ++ rest
    pub count : length values ≡ came
    pub left_is : IsLeft stop rest task.bad
    -- the flags that were read: an end was among them just where the job was canceled
    pub read : List Standing
    pub pass : new ≡ record old { known = new.known; seen = []; looks = old.looks ++ read }
    pub canceled : list_any is_ended read ≡ is_canceled_stop stop
    -- the journal before the finish: it begins with what the pass knew, and the calls of its number beyond that are these
    pub before : List (Logged V)
    pub knew : BeginsWith before old.known
    pub made : List (Logged V)
    pub own : calls_by old.number before ≡ calls_by old.number old.known ++ made
    pub made_are : IsMade values task.bad stop made
    pub stood : Stood stop before
    -- then the finish, where it had an effect
    pub finish : List (Logged V)
    pub after : new.known ≡ before ++ finish
    pub finish_is : AtMostOne (IsCall Finish [] []) finish
    pub by : calls_by old.number finish ≡ finish
    pub finished : IsTrue (flags_at new.known).finished
    pub lawful : IsJournal old.of.terms before

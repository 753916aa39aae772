-- What a job that ended has added to the journal.
use Rattle.std.proofs.Common.{◌≡◌, ◌⊎◌, inl, inr, ℕ, ◌+◌, ◌<◌, ◌≤◌, Bool, true, false, not, ◌||◌, ◌&&◌, List, [], ◌∷◌, ◌++◌, Option, None, Some, All, IsTrue, length, fold, refl, ap, sym, ◌∙◌, subst, append-nil, append_assoc, arith}
use Rattle.std.specs.List.{flat_map, list_any}
use Rattle.std.proofs.lemmas.Grind.{flat_map-append}
use Rattle.std.proofs.lemmas.List.Elements.{All-append}
use Rattle.std.proofs.lemmas.List.Folds.{list_any-append}
use Rattle.qtc_events.specs.Calls.{after, after_acting, after_call, acts_as, finishes, has_effect}
use Rattle.qtc_events.specs.Flags.{Standing}
use Rattle.qtc_events.specs.Journal.{after_entry}
use Rattle.qtc_events.specs.declared.calls.Call.{Call}
use Rattle.qtc_events.specs.declared.calls.Call.TheVariants.{Start, Report, Account, Suspend, Resume, ReportSuspended, Cancel, Fail, Finish}
use Rattle.qtc_events.specs.declared.entries.Reached.{Reached}
use Rattle.qtc_events.specs.declared.entries.Reached.TheVariants.{Nothing, Suspend as ReachedSuspend, Cancel as ReachedCancel}
use Rattle.qtc_events.proofs.Rows.{finished_after}
use Rattle.qtc_future.specs.Future.{Future, Logged}
use Rattle.qtc_future.specs.Steps.{Effect, logged_by}
use Rattle.qtc_future.specs.declared.requests.Request.TheVariants.{Start as AskStart, Finish as AskFinish}
use Rattle.qtc_shared.specs.Journals.{BeginsWith, IsJournal, calls_by, flags_at}
use Rattle.qtc_shared.specs.Laws.{has_seen, is_ended}
use Rattle.qtc_shared.specs.Parts.{future_at}
use Rattle.qtc_shared.specs.Passes.{FutureId, PassState, IsHold, Makes, Meets}
use Rattle.qtc_shared.proofs.Prefixes.{begins_further, saw_begins}
use Rattle.qtc_shared.proofs.Staying.{met_stays}
use Rattle.qtc_tasks.specs.TaskJournals.{AreFails, AtMostOne, HasTaskJournal, IsCall, IsLeft, IsMade, IsTaskJournal, IsWorkCall, Stood, is_canceled_stop, is_taken}
use Rattle.qtc_tasks.specs.Tasks.{TaskState}
use Rattle.qtc_tasks.specs.Turns.{IsDone, IsNotRun, IsStarted, IsWork}
use Rattle.qtc_tasks.specs.declared.ends.TaskStop.{TaskStop}
use Rattle.qtc_tasks.specs.declared.ends.TaskStop.TheVariants.{Whole, Failed, Canceled, Refused, Memory, NotRun}
use Rattle.qtc_tasks.proofs.Adding.{Gained, all_gained}
use Rattle.qtc_tasks.proofs.Answered.{by_its_row, own_of}
use Rattle.qtc_tasks.proofs.Passing.{Goes, ended_stays, goes_further, hold_goes, own_call}
use Rattle.qtc_tasks.proofs.Stepping.{row_goes}
use Rattle.qtc_tasks.proofs.Stopping.{Stopping, flags_push, stopping}

-- Started, or an end, stays
started_by_call : (s : Standing) (call : Call) → IsTrue s.started → IsTrue (after_call s call).started
started_by_call s Start h = refl
started_by_call s (Report begin kept total) h = h
started_by_call s (Account total) h = h
started_by_call s Suspend h = h
started_by_call s Resume h = h
started_by_call s ReportSuspended h = h
started_by_call s Cancel h = h
started_by_call s (Fail index) h = h
started_by_call s Finish h = h

started_by_acting : (s : Standing) (reached : Reached) → IsTrue s.started → IsTrue (after_acting s (acts_as reached)).started
started_by_acting s Nothing h = h
started_by_acting s ReachedSuspend h = h
started_by_acting s ReachedCancel h = h

or_either : (a b : Bool) → IsTrue (a || b) → IsTrue a ⊎ IsTrue b
or_either true b h = inl refl
or_either false b h = inr h

or_left : (a b : Bool) → IsTrue a → IsTrue (a || b)
or_left true b h = refl
or_left false b h = absurd (cc)

or_right : (a b : Bool) → IsTrue b → IsTrue (a || b)
or_right true b h = refl
or_right false b h = h

taken_stays : (s : Standing) (call : Call) (reached : Reached) → IsTrue (is_taken s) → IsTrue (is_taken (after s call reached))
taken_stays s call reached h = elim (or_either s.started (is_ended s) h) [
  | inl started ↦ or_left (after s call reached).started (is_ended (after s call reached)) (started_by_acting (after_call s call) reached (started_by_call s call started))
  | inr ended ↦ or_right (after s call reached).started (is_ended (after s call reached)) (ended_stays s call reached ended)
]

starts_not : (s : Standing) → has_effect s Start ≡ false → IsTrue (is_taken s)
starts_not s h = by s.started s.canceled s.finished h
  where
    by : (a b c : Bool) → ((not a && (not b && (not c && true))) && (true && true)) ≡ false → IsTrue (a || (b || c))
    by true b c h = refl
    by false true c h = refl
    by false false true h = refl
    by false false false h = absurd (cc)

finishes_not : (s : Standing) → has_effect s Finish ≡ false → IsTrue s.finished
finishes_not s h = by s.finished h
  where
    by : (a : Bool) → ((not a && true) && (true && true)) ≡ false → IsTrue a
    by true h = refl
    by false h = absurd (cc)

module _ {V : Type 0} where
  one_at_most : (future : Future V) (number : ℕ) (call : Call) (item : List ℕ) (effect : Bool) → AtMostOne (IsCall call [] item) (own_of future number call item effect)
  one_at_most future number call item true = record { call_is = refl; values_are = refl; item_is = refl }
  one_at_most future number call item false = tt

  mine : (future : Future V) (number : ℕ) (call : Call) (item : List ℕ) (effect : Bool) → calls_by number (own_of future number call item effect) ≡ own_of future number call item effect
  mine future number call item true = own_call number (logged_by future number call [] item) refl
  mine future number call item false = refl

  finished_then : (journal known : List (Logged V)) (future : Future V) (number : ℕ) (effect : Bool) → effect ≡ has_effect (flags_at journal) Finish
      → known ≡ journal ++ own_of future number Finish [] effect → IsTrue (flags_at known).finished
  finished_then journal known future number true e is =
      let logged = logged_by future number Finish [] [] in
      subst (λ j. IsTrue (flags_at j).finished) (sym is)
      (subst (λ s. IsTrue s.finished) (sym (flags_push journal logged))
      (subst IsTrue (sym (finished_after (flags_at journal) Finish logged.entry.reached)) (or_right (flags_at journal).finished true refl)))
  finished_then journal known future number false e is =
      subst (λ j. IsTrue (flags_at j).finished) (sym (is ∙ append-nil journal)) (finishes_not (flags_at journal) (sym e))

  -- what a job did before its finish
  pub record Worked {T : Type 0} (task : TaskState V) (old new : PassState V) (came : ℕ) (stop : TaskStop T) : Type 0 where
    pub values : List V
    pub rest : List V
    pub left : task.left ≡ values ++ rest
    pub count : length values ≡ came
    pub left_is : IsLeft stop rest task.bad
    pub read : List Standing
    pub reads : list_any is_ended read ≡ is_canceled_stop stop
    pub made : List (Logged V)
    pub goes : Goes old new made read
    pub made_are : IsMade values task.bad stop made
    pub stood : (journal : List (Logged V)) → Meets new journal → Stood stop journal

  none_run : {T : Type 0} → (back : T) (task : TaskState V) (old new : PassState V) → IsHold old new (Makes old AskStart (Effect false)) → Worked task old new 0 (NotRun back)
  none_run back task old new hold =
      let f : Future V = future_at old.of.terms hold.journal in
      let row = by_its_row f (future_at old.of.terms new.known) old.number Start [] false hold.done in
      record {
        values = [];
        rest = task.left;
        left = refl;
        count = refl;
        left_is = tt;
        read = [];
        reads = refl;
        made = [];
        goes = hold_goes old new _ [] hold row.1 refl;
        made_are = (refl, refl);
        stood = λ journal met. met_stays is_taken taken_stays new journal met
            (or_left (is_taken (flags_at new.known)) (list_any is_taken new.seen)
            (subst (λ j. IsTrue (is_taken (flags_at j))) (sym (row.1 ∙ append-nil hold.journal)) (starts_not (flags_at hold.journal) (sym row.0))));
      }

  was_started : {T : Type 0} → (task : TaskState V) (old new : PassState V) (came : ℕ) (stop : TaskStop T)
      → ((values : List V) (made : List (Logged V)) → IsTaskJournal values task.bad stop made → IsMade values task.bad stop made)
      → IsStarted task old new came stop → Worked task old new came stop
  was_started task old new came stop makes done =
      let hold = done.start in
      let f : Future V = future_at old.of.terms hold.journal in
      let row = by_its_row f (future_at old.of.terms done.started.known) old.number Start [] true hold.done in
      let start : Logged V = logged_by f old.number Start [] [] in
      let work = done.work in
      let gained = all_gained done.started work.values work.added work.adds in
      let stops = stopping stop (record { left = work.rest; bad = task.bad }) came work.added new work.stops in
      let made = start ∷ (gained.own ++ (stops.works ++ stops.fails)) in
      record {
        values = work.values;
        rest = work.rest;
        left = work.left;
        count = work.count;
        left_is = stops.left_is;
        read = gained.read ++ stops.read;
        reads = list_any-append is_ended gained.read stops.read ∙ ap (λ b. b || list_any is_ended stops.read) gained.reads ∙ stops.reads;
        made = made;
        goes = goes_further old done.started new (start ∷ []) _ [] (gained.read ++ stops.read) (row_goes old done.started _ Start [] true hold row.1)
            (goes_further done.started work.added new gained.own (stops.works ++ stops.fails) gained.read stops.read gained.goes stops.goes);
        made_are = makes work.values made (record {
          start = start;
          works = gained.own ++ stops.works;
          fails = stops.fails;
          is = ap (λ xs. start ∷ xs) (sym (append_assoc gained.own stops.works stops.fails));
          start_is = record { call_is = refl; values_are = refl; item_is = refl };
          works_are = All-append IsWorkCall gained.own stops.works gained.works stops.works_are;
          reported = flat_map-append (λ (l : Logged V). l.values) gained.own stops.works
              ∙ ap (λ vs. vs ++ flat_map (λ (l : Logged V). l.values) stops.works) gained.carries
              ∙ ap (λ vs. work.values ++ vs) stops.carries ∙ append-nil work.values;
          fails_are = subst (λ n. AreFails stop task.bad n stops.fails) (sym work.count) stops.fails_are;
        });
        stood = stops.stood;
      }

  worked : {T : Type 0} → (item : T) (task : TaskState V) (old new : PassState V) (came : ℕ) (stop : TaskStop T) → IsDone item task old new came stop → Worked task old new came stop
  worked item task old new came Whole done = was_started task old new came Whole (λ values made is. is) done
  worked item task old new came Failed done = was_started task old new came Failed (λ values made is. is) done
  worked item task old new came Canceled done = was_started task old new came Canceled (λ values made is. is) done
  worked item task old new came Refused done = was_started task old new came Refused (λ values made is. is) done
  worked item task old new came Memory done = was_started task old new came Memory (λ values made is. is) done
  worked item task old new came (NotRun back) done = subst (λ n. Worked task old new n (NotRun back)) (sym done.none) (none_run back task old new done.start)

  pub task_journal : {T : Type 0} → (item : T) (task : TaskState V) (old worked_on new : PassState V) (came : ℕ) (stop : TaskStop T) (effect : Bool) → IsDone item task old worked_on came stop
      → IsHold worked_on new (Makes worked_on AskFinish (Effect effect)) → HasTaskJournal task old new came stop
  task_journal item task old worked_on new came stop effect done hold =
      let work = worked item task old worked_on came stop done in
      let f : Future V = future_at worked_on.of.terms hold.journal in
      let row = by_its_row f (future_at worked_on.of.terms new.known) worked_on.number Finish [] effect hold.done in
      let same : worked_on.number ≡ old.number = ap (λ p. p.number) work.goes.pass in
      record {
        values = work.values;
        rest = work.rest;
        left = work.left;
        count = work.count;
        left_is = work.left_is;
        read = work.read;
        pass = hold.pass ∙ ap (λ (p : PassState V). record p { known = new.known; seen = [] }) work.goes.pass;
        canceled = work.reads;
        before = hold.journal;
        knew = begins_further old.known worked_on.known hold.journal work.goes.knew (saw_begins worked_on.known hold.journal worked_on.seen hold.met.saw);
        made = work.made;
        own = subst (λ n. calls_by n hold.journal ≡ calls_by n worked_on.known) same hold.met.own ∙ work.goes.calls;
        made_are = work.made_are;
        stood = work.stood hold.journal hold.met;
        finish = own_of f worked_on.number Finish [] effect;
        after = row.1;
        finish_is = one_at_most f worked_on.number Finish [] effect;
        by = subst (λ n. calls_by n (own_of f worked_on.number Finish [] effect) ≡ own_of f worked_on.number Finish [] effect) same (mine f worked_on.number Finish [] effect);
        finished = finished_then hold.journal new.known f worked_on.number effect row.0 row.1;
        lawful = subst (λ (o : FutureId). IsJournal o.terms hold.journal) (ap (λ p. p.of) work.goes.pass) hold.met.lawful;
      }

  -- the pass stays that of its future and number
  pub work_same : {T : Type 0} → (task : TaskState V) (old new : PassState V) (came : ℕ) (stop : TaskStop T) → IsWork task old new came stop → (new.of ≡ old.of) × (new.number ≡ old.number)
  work_same task old new came stop work =
      let gained = all_gained old work.values work.added work.adds in
      let stops = stopping stop (record { left = work.rest; bad = task.bad }) came work.added new work.stops in
      (ap (λ p. p.of) stops.goes.pass ∙ ap (λ p. p.of) gained.goes.pass, ap (λ p. p.number) stops.goes.pass ∙ ap (λ p. p.number) gained.goes.pass)

  never_run : {T : Type 0} → (task : TaskState V) (old new : PassState V) (came : ℕ) (back : T) → IsWork task old new came (NotRun back) → ⊥
  never_run task old new came back work = work.stops

  pub started_done : {T : Type 0} → (item : T) (task : TaskState V) (old started new : PassState V) (came : ℕ) (stop : TaskStop T)
      → IsHold old started (Makes old AskStart (Effect true)) → IsWork task started new came stop → IsDone item task old new came stop
  started_done item task old started new came Whole start work = record { started = started; start = start; work = work }
  started_done item task old started new came Failed start work = record { started = started; start = start; work = work }
  started_done item task old started new came Canceled start work = record { started = started; start = start; work = work }
  started_done item task old started new came Refused start work = record { started = started; start = start; work = work }
  started_done item task old started new came Memory start work = record { started = started; start = start; work = work }
  started_done item task old started new came (NotRun back) start work = absurd (never_run task started new came back work)

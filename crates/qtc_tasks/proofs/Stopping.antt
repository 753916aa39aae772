-- What it comes to by which a job stops.
use Rattle.std.proofs.Common.{◌≡◌, ◌⊎◌, inl, inr, ℕ, ◌+◌, ◌<◌, ◌≤◌, Bool, true, false, not, ◌||◌, ◌&&◌, List, [], ◌∷◌, ◌++◌, Option, None, Some, Result, Ok, Err, IsOk, OnErr, ◌↔◌, All, IsTrue, length, refl, ap, sym, ◌∙◌, subst, append-nil, append_assoc, arith}
use Rattle.std.specs.List.{flat_map, list_any}
use Rattle.std.proofs.lemmas.List.Elements.{All-append, All-nil}
use Rattle.std.proofs.lemmas.List.Folds.{list_any-append}
use Rattle.qtc_base.specs.declared.memory.NoMemory.{NoMemory}
use Rattle.qtc_base.specs.Limits.{most_end}
use Rattle.qtc_events.specs.Calls.{after, cancels, cancels_by_threshold, has_effect}
use Rattle.qtc_events.specs.Flags.{Standing}
use Rattle.qtc_events.specs.declared.calls.Call.{Call}
use Rattle.qtc_events.specs.declared.calls.Call.TheVariants.{Start, Report, ReportSuspended, Fail, Finish}
use Rattle.qtc_events.specs.declared.entries.Reached.{Reached}
use Rattle.qtc_events.proofs.Rows.{canceled_after, finished_after}
use Rattle.qtc_future.specs.Future.{Future, Logged, flags_of, reports_of, results_of}
use Rattle.qtc_future.specs.Steps.{logged_by, has_ended}
use Rattle.qtc_future.specs.declared.requests.Request.TheVariants.{AddResult}
use Rattle.qtc_shared.specs.Journals.{BeginsWith, calls_by, flags_at}
use Rattle.qtc_shared.specs.Laws.{has_seen, is_ended}
use Rattle.qtc_shared.specs.Parts.{future_at}
use Rattle.qtc_shared.specs.Passes.{PassState, Adds, IsHold, IsPause, Meets}
use Rattle.qtc_shared.proofs.Prefixes.{saw_begins}
use Rattle.qtc_store.specs.Batches.{end_of}
use Rattle.qtc_store.specs.Stored.{batch_with, goes_at}
use Rattle.qtc_store.specs.declared.batch.Batch.{Batch}
use Rattle.qtc_store.proofs.Offers.{greatest_end-in_order}
use Rattle.qtc_tasks.specs.Inside.{end_at}
use Rattle.qtc_tasks.specs.TaskJournals.{AreFails, AtMostOne, IsCall, IsLeft, IsWorkCall, Stood, is_canceled_stop, is_full}
use Rattle.qtc_tasks.specs.Tasks.{TaskState}
use Rattle.qtc_tasks.specs.Turns.{Fails, IsOffered, IsPaused, IsTurnedDown, OffersFirst, StopsBy}
use Rattle.qtc_tasks.specs.declared.ends.TaskStop.{TaskStop}
use Rattle.qtc_tasks.specs.declared.ends.TaskStop.TheVariants.{Whole, Failed, Canceled, Refused, Memory, NotRun}
use Rattle.qtc_tasks.proofs.Adding.{end_grows, stills_carry, stills_work}
use Rattle.qtc_tasks.proofs.Answered.{by_its_row, left_out, none_at_end, offer_wants, own_of}
use Rattle.qtc_tasks.proofs.Full.{all_inside, full_at}
use Rattle.qtc_tasks.proofs.Passing.{Goes, flags_later, goes_further, hold_goes, later_ended, look_goes, met_ended}
use Rattle.qtc_tasks.proofs.Stepping.{Reported, Rested, not_true, reported, rested, row_goes}

or_nothing : (b : Bool) → (b || false) ≡ b
or_nothing true = refl
or_nothing false = refl

or_left : (a b : Bool) → IsTrue a → IsTrue (a || b)
or_left true b h = refl
or_left false b h = absurd (cc)

or_right : (a b : Bool) → IsTrue b → IsTrue (a || b)
or_right true b h = refl
or_right false b h = h

true_or : (a b c : Bool) → IsTrue ((a || (true || b)) || c)
true_or true b c = refl
true_or false b c = refl

more_read : (first : List Standing) (later : List Standing) (b : Bool) → list_any is_ended first ≡ false → list_any is_ended later ≡ b → list_any is_ended (first ++ later) ≡ b
more_read first later b none is = list_any-append is_ended first later ∙ ap (λ x. x || list_any is_ended later) none ∙ is

-- a fail has no effect only where an end stands
fails_at_end : (s : Standing) (index : ℕ) → has_effect s (Fail index) ≡ false → IsTrue (is_ended s)
fails_at_end s index h = by s.canceled s.finished h
  where
    by : (a b : Bool) → ((not a && (not b && true)) && (true && true)) ≡ false → IsTrue (a || b)
    by true b h = refl
    by false true h = refl
    by false false h = absurd (cc)

ended_after_fail : (s : Standing) (index : ℕ) (reached : Reached) → IsTrue (is_ended (after s (Fail index) reached))
ended_after_fail s index reached =
    subst (λ b. IsTrue (b || (after s (Fail index) reached).finished)) (sym (canceled_after s (Fail index) reached)) (true_or s.canceled (cancels_by_threshold reached) _)

module _ {V : Type 0} where
  pub flags_push : (journal : List (Logged V)) (logged : Logged V) → flags_at (journal ++ logged ∷ []) ≡ after (flags_at journal) logged.entry.call logged.entry.reached
  flags_push journal logged = flags_later journal (logged ∷ [])

  pub known_ended : (pass : PassState V) (journal : List (Logged V)) → Meets pass journal → IsTrue (is_ended (flags_at pass.known)) → IsTrue (is_ended (flags_at journal))
  known_ended pass journal met h = met_ended pass journal met (or_left (is_ended (flags_at pass.known)) (list_any is_ended pass.seen) h)

  pub record Stopping {T : Type 0} (stop : TaskStop T) (rest : List V) (bad : Option (List ℕ)) (came : ℕ) (old new : PassState V) : Type 0 where
    pub works : List (Logged V)
    pub fails : List (Logged V)
    pub read : List Standing
    pub goes : Goes old new (works ++ fails) read
    pub works_are : All IsWorkCall works
    pub carries : flat_map (λ (l : Logged V). l.values) works ≡ []
    pub fails_are : AreFails stop bad came fails
    pub reads : list_any is_ended read ≡ is_canceled_stop stop
    pub left_is : IsLeft stop rest bad
    pub stood : (journal : List (Logged V)) → Meets new journal → Stood stop journal

  no_fails : (old new : PassState V) (own : List (Logged V)) (read : List Standing) → Goes old new own read → Goes old new (own ++ []) read
  no_fails old new own read goes = subst (λ xs. Goes old new xs read) (sym (append-nil own)) goes

  fail_is : (future : Future V) (number came : ℕ) (text : List ℕ) (effect : Bool) → AtMostOne (IsCall (Fail came) [] text) (own_of future number (Fail came) text effect)
  fail_is future number came text true = record { call_is = refl; values_are = refl; item_is = refl }
  fail_is future number came text false = tt

  fails_by : (T : Type 0) (future : Future V) (number came : ℕ) (text : List ℕ) (effect : Bool) (bad : Option (List ℕ)) → bad ≡ Some text → AreFails {T = T} Failed bad came (own_of future number (Fail came) text effect)
  fails_by T future number came text effect bad is = subst (λ b. AreFails {T = T} Failed b came (own_of future number (Fail came) text effect)) (sym is) (fail_is future number came text effect)

  fail_ends : (journal known : List (Logged V)) (future : Future V) (number came : ℕ) (text : List ℕ) (effect : Bool) → effect ≡ has_effect (flags_at journal) (Fail came)
      → known ≡ journal ++ own_of future number (Fail came) text effect → IsTrue (is_ended (flags_at known))
  fail_ends journal known future number came text true e is =
      let logged = logged_by future number (Fail came) [] text in
      subst (λ j. IsTrue (is_ended (flags_at j))) (sym is)
      (subst (λ s. IsTrue (is_ended s)) (sym (flags_push journal logged)) (ended_after_fail (flags_at journal) came logged.entry.reached))
  fail_ends journal known future number came text false e is =
      subst (λ j. IsTrue (is_ended (flags_at j))) (sym (is ∙ append-nil journal)) (fails_at_end (flags_at journal) came (sym e))

  -- an offer that was refused
  pub record TurnedDown (old new : PassState V) (ended : Bool) : Type 0 where
    pub own : List (Logged V)
    pub read : List Standing
    pub goes : Goes old new own read
    pub stills : All (IsCall ReportSuspended [] []) own
    pub reads : list_any is_ended read ≡ ended
    pub stood : (journal : List (Logged V)) → Meets new journal → ended ≡ false → IsTrue (is_full journal)

  turned_down : (old new : PassState V) (value : V) (ended : Bool) → IsTurnedDown old new value ended → TurnedDown old new ended
  turned_down old new value ended down =
      let offer = down.offer in
      let paused = offer.paused in
      let rest = rested old paused false offer.pause in
      let hold = offer.add in
      let f : Future V = future_at paused.of.terms hold.journal in
      let batch : Batch V = batch_with (goes_at (results_of f) None) (value ∷ []) 1 in
      let out = left_out f (future_at paused.of.terms down.offered.known) paused.number batch hold.done.ok.0 hold.done.ok.1 in
      let after : down.offered.known ≡ hold.journal = ap (λ f. f.calls) out.after_is in
      let held = hold_goes paused down.offered _ [] hold (after ∙ sym (append-nil hold.journal)) refl in
      let looked = look_goes down.offered new (down.flags ∷ []) down.look.pass in
      let first = goes_further old paused down.offered rest.own [] rest.read [] rest.goes held in
      let all = goes_further old down.offered new (rest.own ++ []) [] (rest.read ++ []) (down.flags ∷ []) first looked in
      record {
        own = (rest.own ++ []) ++ [];
        read = (rest.read ++ []) ++ down.flags ∷ [];
        goes = all;
        stills = All-append (IsCall ReportSuspended [] []) (rest.own ++ []) [] (All-append (IsCall ReportSuspended [] []) rest.own [] rest.stills (All-nil (IsCall ReportSuspended [] []))) (All-nil (IsCall ReportSuspended [] []));
        reads = more_read (rest.read ++ []) (down.flags ∷ []) ended (more_read rest.read [] false rest.reads refl) (or_nothing (is_ended down.flags) ∙ down.showed);
        stood = λ journal met none.
            let going : is_ended (flags_at hold.journal) ≡ false = not_true _ (λ stands.
            let seen = looked.sees (or_left (has_seen is_ended down.offered) (list_any is_ended (down.flags ∷ [])) (or_left (is_ended (flags_at down.offered.known)) (list_any is_ended down.offered.seen) (subst (λ j. IsTrue (is_ended (flags_at j))) (sym after) stands))) in
            let shows : is_ended down.flags ≡ true = ap is_ended down.look.now ∙ met_ended new down.look.journal down.look.met seen in
            absurd (let no = down.showed in cc)) in
            let past = out.why going (none_at_end f) in
            let at : goes_at (results_of f) None ≡ end_at hold.journal = greatest_end-in_order (reports_of hold.journal) in
            let known : BeginsWith journal hold.journal = subst (λ j. BeginsWith journal j) (looks_same ∙ after) (saw_begins new.known journal new.seen met.saw) in
            let grew = end_grows journal hold.journal known in
            full_at journal (all_inside _ journal met.lawful.legal) (omega (arith, past, at, grew));
      }
    where
      looks_same : new.known ≡ down.offered.known
      looks_same = ap (λ p. p.known) down.look.pass

  offer_lacks : (old new : PassState V) (value : V) → IsOffered old new value (Err (record {})) → Rested old new false
  offer_lacks old new value offer =
      let paused = offer.paused in
      let rest = rested old paused false offer.pause in
      let hold = offer.add in
      let after : new.known ≡ hold.journal = ap (λ f. f.calls) hold.done.err in
      record {
        own = rest.own ++ [];
        read = rest.read ++ [];
        goes = goes_further old paused new rest.own [] rest.read [] rest.goes (hold_goes paused new _ [] hold (after ∙ sym (append-nil hold.journal)) refl);
        stills = All-append (IsCall ReportSuspended [] []) rest.own [] rest.stills (All-nil (IsCall ReportSuspended [] []));
        reads = more_read rest.read [] false rest.reads refl;
        new_sees = λ h. absurd (cc);
      }

  pause_lacks_at : (old new : PassState V) (answer : Result Bool NoMemory) → Reported old new answer → (IsOk answer → ⊥) → Rested old new false
  pause_lacks_at old new (Ok effect) first none = absurd (none refl)
  pause_lacks_at old new (Err wants) first none = record {
    own = first.own;
    read = first.read;
    goes = first.goes;
    stills = first.stills;
    reads = first.wants;
    new_sees = λ h. absurd (cc);
  }

  pause_lacks : (old new : PassState V) → IsPause old new (Err (record {})) → Rested old new false
  pause_lacks old new pause =
      subst (λ p. Rested old p false) (sym pause.err)
      (pause_lacks_at old pause.reported pause.answer (reported old pause.reported pause.answer pause.report) (λ ok. let none = pause.same.1 ok in absurd (cc)))

  -- a stop at which nothing was done but to pause, or to offer in vain
  stops_still : {T : Type 0} → (stop : TaskStop T) (rest : List V) (bad : Option (List ℕ)) (came : ℕ) (old new : PassState V) (own : List (Logged V)) (read : List Standing)
      → Goes old new own read → All (IsCall ReportSuspended [] []) own → list_any is_ended read ≡ is_canceled_stop stop → AreFails {V = V} stop bad came [] → IsLeft stop rest bad
      → ((journal : List (Logged V)) → Meets new journal → Stood stop journal) → Stopping stop rest bad came old new
  stops_still stop rest bad came old new own read goes stills reads fails left stood = record {
    works = own;
    fails = [];
    read = read;
    goes = no_fails old new own read goes;
    works_are = stills_work own stills;
    carries = stills_carry own stills;
    fails_are = fails;
    reads = reads;
    left_is = left;
    stood = stood;
  }

  lacks_memory : {T : Type 0} → (rest : List V) (bad : Option (List ℕ)) (came : ℕ) (old new : PassState V) → Rested old new false → Stopping {T = T} Memory rest bad came old new
  lacks_memory rest bad came old new one = stops_still Memory rest bad came old new one.own one.read one.goes one.stills one.reads refl tt (λ journal met. tt)

  fails_at : {T : Type 0} → (left : TaskState V) (came : ℕ) (old new : PassState V) → Fails left came old new → Stopping {T = T} Failed left.left left.bad came old new
  fails_at {T = T} left came old new fails =
      let paused = fails.paused in
      let one = rested old paused false fails.pause in
      let hold = fails.fail in
      let f : Future V = future_at paused.of.terms hold.journal in
      let row = by_its_row f (future_at paused.of.terms new.known) paused.number (Fail came) fails.text fails.effect hold.done in
      let own = own_of f paused.number (Fail came) fails.text fails.effect in
      record {
        works = one.own;
        fails = own;
        read = one.read ++ [];
        goes = goes_further old paused new one.own own one.read [] one.goes (row_goes paused new _ (Fail came) fails.text fails.effect hold row.1);
        works_are = stills_work one.own one.stills;
        carries = stills_carry one.own one.stills;
        fails_are = fails_by T f paused.number came fails.text fails.effect left.bad fails.bad;
        reads = more_read one.read [] false one.reads refl;
        left_is = fails.none;
        stood = λ journal met. known_ended new journal met (fail_ends hold.journal new.known f paused.number came fails.text fails.effect row.0 row.1);
      }

  first_turned : {T : Type 0} → (rest : List V) (bad : Option (List ℕ)) (came : ℕ) (old new : PassState V) → OffersFirst rest (λ value. IsTurnedDown old new value true) → Stopping {T = T} Canceled rest bad came old new
  first_turned [] bad came old new none = absurd none
  first_turned (value ∷ rest) bad came old new down =
      let one = turned_down old new value true down in
      stops_still Canceled (value ∷ rest) bad came old new one.own one.read one.goes one.stills one.reads refl tt
      (λ journal met. met_ended new journal met (one.goes.sees (or_right (has_seen is_ended old) (list_any is_ended one.read) one.reads)))

  first_refused : {T : Type 0} → (rest : List V) (bad : Option (List ℕ)) (came : ℕ) (old new : PassState V) → OffersFirst rest (λ value. IsTurnedDown old new value false) → Stopping {T = T} Refused rest bad came old new
  first_refused [] bad came old new none = absurd none
  first_refused (value ∷ rest) bad came old new down =
      let one = turned_down old new value false down in
      stops_still Refused (value ∷ rest) bad came old new one.own one.read one.goes one.stills one.reads refl (λ none. absurd (cc))
      (λ journal met. one.stood journal met refl)

  first_lacks : {T : Type 0} → (rest : List V) (bad : Option (List ℕ)) (came : ℕ) (old new : PassState V) → OffersFirst rest (λ value. IsOffered old new value (Err (record {}))) → Stopping {T = T} Memory rest bad came old new
  first_lacks [] bad came old new none = absurd none
  first_lacks (value ∷ rest) bad came old new offer = lacks_memory (value ∷ rest) bad came old new (offer_lacks old new value offer)

  pub stopping : {T : Type 0} → (stop : TaskStop T) (left : TaskState V) (came : ℕ) (old new : PassState V) → StopsBy stop left came old new → Stopping stop left.left left.bad came old new
  stopping Whole left came old new stops =
      let one = rested old new false stops.2 in
      stops_still Whole left.left left.bad came old new one.own one.read one.goes one.stills one.reads refl (stops.0, stops.1) (λ journal met. tt)
  stopping Failed left came old new stops = fails_at left came old new stops
  stopping Canceled left came old new (inl paused) =
      let one = rested old new true paused in
      stops_still Canceled left.left left.bad came old new one.own one.read one.goes one.stills one.reads refl tt (λ journal met. met_ended new journal met (one.new_sees refl))
  stopping Canceled left came old new (inr down) = first_turned left.left left.bad came old new down
  stopping Refused left came old new down = first_refused left.left left.bad came old new down
  stopping Memory left came old new (inl pause) = lacks_memory left.left left.bad came old new (pause_lacks old new pause)
  stopping Memory left came old new (inr (inl paused)) = lacks_memory left.left left.bad came old new (rested old new false paused)
  stopping Memory left came old new (inr (inr offer)) = first_lacks left.left left.bad came old new offer
  stopping (NotRun task) left came old new none = absurd none

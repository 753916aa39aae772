-- What a pass knows, as it looks and meets journals.
use Rattle.std.proofs.Common.{◌≡◌, ◌⊎◌, ℕ, Bool, true, false, ◌||◌, ◌==◌, List, [], ◌∷◌, ◌++◌, All, IsTrue, map, fold, if◌then◌else◌, inl, inr, refl, ap, sym, ◌∙◌, subst, arith, append-nil}
use Rattle.std.specs.Prelude.{Contains}
use Rattle.std.specs.List.{list_any}
use Rattle.std.proofs.lemmas.Bool.{false≢true}
use Rattle.std.proofs.lemmas.Bool.Decides.{nat_tests}
use Rattle.std.proofs.lemmas.List.{map-append}
use Rattle.std.proofs.lemmas.List.Concat.{flat_map-append}
use Rattle.std.proofs.lemmas.List.Elements.{All-push, All-weaker, Contains-append_left, filter-append}
use Rattle.std.proofs.lemmas.List.Folds.{list_any-append}
use Rattle.std.proofs.lemmas.List.Sums.{fold-append}
use Rattle.qtc_base.specs.Ranges.{times_covered}
use Rattle.qtc_claim.specs.Claims.{Addition, clipped}
use Rattle.qtc_events.specs.Flags.{Standing, new_flags}
use Rattle.qtc_events.specs.Calls.{after, has_effect}
use Rattle.qtc_events.specs.Journal.{after_entry}
use Rattle.qtc_events.specs.declared.calls.Call.{Call}
use Rattle.qtc_events.specs.declared.calls.Call.TheVariants.{Start, Report, Account, Suspend, Resume, ReportSuspended, Cancel, Fail, Finish}
use Rattle.qtc_events.specs.declared.entries.Entry.{Entry}
use Rattle.qtc_events.specs.declared.entries.Reached.{Reached}
use Rattle.qtc_future.specs.Future.{Future, Logged, batch_of, batches_in, entries_of, flags_of, reports_of}
use Rattle.qtc_future.specs.Legal.{AreEffective, IsLegal}
use Rattle.qtc_future.specs.Steps.{Effect, by_row, logged_by, stays, with_call}
use Rattle.qtc_future.specs.declared.requests.Request.{Request}
use Rattle.qtc_future.proofs.Growing.{flags-push}
use Rattle.qtc_future.proofs.Legality.{effective-split}
use Rattle.qtc_shared.specs.Journals.{BeginsWith, IsJournal, Saw, calls_by, flags_at}
use Rattle.qtc_shared.specs.Parts.{Terms, future_at}
use Rattle.qtc_shared.specs.Passes.{IsHold, IsLook, IsWatch, Meets, PassState, Stays}
use Rattle.qtc_shared.proofs.Prefixes.{begins_further, begins_same, saw_begins}
use Rattle.qtc_kernel.specs.EngineParts.{AreHandedIn, HasMetEnd, IsLeft, KnowsEnd, is_report, is_strange, ranges_by, shows_end}
use Rattle.qtc_kernel.specs.Runs.{range_of}
use Rattle.qtc_kernel.specs.Turns.{GoesOn, HasMade}
use Rattle.qtc_kernel.specs.Working.{HasLooked}
use Rattle.qtc_kernel.proofs.Asking.{row_either}

abbrev pub Journal : Type 0
Journal = List (Logged (List ℕ))

-- ---- journals

pub begins_more : (first more : Journal) → BeginsWith (first ++ more) first
begins_more first more = record { later = more; is = refl }

pub calls_by-append : (number : ℕ) (first more : Journal) → calls_by number (first ++ more) ≡ calls_by number first ++ calls_by number more
calls_by-append number first more = filter-append (λ (logged : Logged (List ℕ)). logged.entry.caller == number) first more

pub reports-append : (first more : Journal) → reports_of (first ++ more) ≡ reports_of first ++ reports_of more
reports-append first more = flat_map-append (λ (logged : Logged (List ℕ)). batches_in logged) first more

pub ranges_by-append : (number : ℕ) (first more : Journal) → ranges_by number (first ++ more) ≡ ranges_by number first ++ ranges_by number more
ranges_by-append number first more =
    ap (λ calls. map range_of (reports_of calls)) (calls_by-append number first more)
    ∙ ap (map range_of) (reports-append (calls_by number first) (calls_by number more))
    ∙ map-append range_of (reports_of (calls_by number first)) (reports_of (calls_by number more))

pub own_call : (number : ℕ) (logged : Logged (List ℕ)) → logged.entry.caller ≡ number → calls_by number (logged ∷ []) ≡ logged ∷ []
own_call number logged is = let same : (logged.entry.caller == number) ≡ true = grind (arith, nat_tests) in rw same refl

-- ---- an end stays

end_after : (s : Standing) (call : Call) (reached : Reached) → shows_end s ≡ true → shows_end (after s call reached) ≡ true
end_after s call reached h = grind arith

end_after_all : (s : Standing) (entries : List Entry) → shows_end s ≡ true → shows_end (fold after_entry s entries) ≡ true
end_after_all s [] h = h
end_after_all s (entry ∷ entries) h = end_after_all (after_entry s entry) entries (end_after s entry.call entry.reached h)

pub end_stays : (first later : Journal) → BeginsWith later first → shows_end (flags_at first) ≡ true → shows_end (flags_at later) ≡ true
end_stays first later begins h =
    let flags : flags_at later ≡ fold after_entry (flags_at first) (entries_of begins.later) =
    ap flags_at begins.is
    ∙ ap (fold after_entry new_flags) (map-append (λ (logged : Logged (List ℕ)). logged.entry) first begins.later)
    ∙ fold-append after_entry new_flags (entries_of first) (entries_of begins.later)
    in
    ap shows_end flags ∙ end_after_all (flags_at first) (entries_of begins.later) h

either_or : (a b : Bool) → (a || b) ≡ true → (a ≡ true) ⊎ (b ≡ true)
either_or true b h = inl refl
either_or false b h = inr h

pub met_end : (known journal : Journal) (seen : List Standing) → Saw known journal seen → list_any shows_end (flags_at known ∷ seen) ≡ true → shows_end (flags_at journal) ≡ true
met_end known journal [] saw h = elim (either_or (shows_end (flags_at known)) false h) [
  | inl here ↦ end_stays known journal saw here
  | inr none ↦ absurd (cc)
]
met_end known journal (flags ∷ seen) saw h = elim (either_or (shows_end (flags_at known)) (list_any shows_end (flags ∷ seen)) h) [
  | inl here ↦ end_stays known journal (begins_further known saw.0 journal saw.1 (saw_begins saw.0 journal seen saw.3)) here
  | inr later ↦ met_end saw.0 journal seen saw.3 (ap (λ f. list_any shows_end (f ∷ seen)) (sym saw.2) ∙ later)
]

pub shown_end : (pass : PassState (List ℕ)) → pass.seen ≡ [] → shows_end (flags_at pass.known) ≡ true → HasMetEnd pass
shown_end pass none h = ap (λ seen. list_any shows_end (flags_at pass.known ∷ seen)) none ∙ both (shows_end (flags_at pass.known)) false h
  where
    both : (a b : Bool) → a ≡ true → (a || b) ≡ true
    both a b h = grind arith

pub knows_met : (pass : PassState (List ℕ)) → KnowsEnd pass → HasMetEnd pass
knows_met pass known = left_or (shows_end (flags_at pass.known)) (list_any shows_end pass.seen) known
  where
    left_or : (a b : Bool) → a ≡ true → (a || b) ≡ true
    left_or a b h = grind arith

-- ---- no report comes after an end

report_stood : (s : Standing) (begin kept total : ℕ) → shows_end s ≡ true → has_effect s (Report begin kept total) ≡ false
report_stood s begin kept total h = grind arith

not_report : (s : Standing) (call : Call) → shows_end s ≡ true → has_effect s call ≡ true → is_report call ≡ false
not_report s Start h e = refl
not_report s (Report begin kept total) h e = absurd (false≢true (sym (report_stood s begin kept total h) ∙ e))
not_report s (Account total) h e = refl
not_report s Suspend h e = refl
not_report s Resume h e = refl
not_report s ReportSuspended h e = refl
not_report s Cancel h e = refl
not_report s (Fail index) h e = refl
not_report s Finish h e = refl

pub no_batch : (call : Call) (values : List (List ℕ)) → is_report call ≡ false → batch_of call values ≡ []
no_batch Start values h = refl
no_batch (Report begin kept total) values h = absurd (cc)
no_batch (Account total) values h = refl
no_batch Suspend values h = refl
no_batch Resume values h = refl
no_batch ReportSuspended values h = refl
no_batch Cancel values h = refl
no_batch (Fail index) values h = refl
no_batch Finish values h = refl

pub none_reported : (number : ℕ) (logged : Logged (List ℕ)) (later : Journal) → batches_in logged ≡ [] → ranges_by number later ≡ [] → ranges_by number (logged ∷ later) ≡ []
none_reported number logged later none rest =
    elim (logged.entry.caller == number) as (λ b. map range_of (reports_of (if b then logged ∷ calls_by number later else calls_by number later)) ≡ []) [
      | true ↦ ap (λ batches. map range_of (batches ++ reports_of (calls_by number later))) none ∙ rest
      | false ↦ rest
    ]

none_later : (number : ℕ) (future : Future (List ℕ)) (later : Journal) → shows_end (flags_of future) ≡ true → AreEffective future later → ranges_by number later ≡ []
none_later number future [] ended effective = refl
none_later number future (logged ∷ later) ended effective =
    let ended' : shows_end (flags_of (with_call future logged)) ≡ true = ap shows_end (flags-push future logged) ∙ end_after (flags_of future) logged.entry.call logged.entry.reached ended in
    none_reported number logged later (no_batch logged.entry.call logged.values (not_report (flags_of future) logged.entry.call ended effective.0.effect))
    (none_later number (with_call future logged) later ended' effective.1)

-- where an end stands, the reports are those that were there
pub reports_rest : (terms : Terms) (first later : Journal) → BeginsWith later first → IsJournal terms later → shows_end (flags_at first) ≡ true → (number : ℕ) → ranges_by number later ≡ ranges_by number first
reports_rest terms first later begins lawful ended number =
    let legal = subst (λ j. IsLegal (future_at terms j)) begins.is lawful.legal in
    let parts = effective-split (future_at terms []) first begins.later legal in
    ap (ranges_by number) begins.is ∙ ranges_by-append number first begins.later
    ∙ ap (λ ranges. ranges_by number first ++ ranges) (none_later number (future_at terms first) begins.later ended parts.1)
    ∙ append-nil (ranges_by number first)

-- ---- a pass goes on

left_true : (a b : Bool) → a ≡ true → (a || b) ≡ true
left_true a b h = grind arith

pub looked_on : (old new : PassState (List ℕ)) → HasLooked old new → GoesOn old new
looked_on old new looked = let is = looked.pass in record {
  of = ap (λ (p : PassState (List ℕ)). p.of) is;
  number = ap (λ (p : PassState (List ℕ)). p.number) is;
  children = ap (λ (p : PassState (List ℕ)). p.children) is;
  known = subst (λ k. BeginsWith k old.known) (sym (ap (λ (p : PassState (List ℕ)). p.known) is)) (begins_same old.known);
  ends = λ met. ap (λ (p : PassState (List ℕ)). list_any shows_end (flags_at p.known ∷ p.seen)) is
      ∙ list_any-append shows_end (flags_at old.known ∷ old.seen) looked.seen
      ∙ left_true (list_any shows_end (flags_at old.known ∷ old.seen)) (list_any shows_end looked.seen) met;
  ended = λ known number. ap (λ (p : PassState (List ℕ)). ranges_by number p.known) is;
}

pub looked_same : (old new : PassState (List ℕ)) → new ≡ old → HasLooked old new
looked_same old new is = record { seen = []; pass = is ∙ (λ i. record old { seen = sym (append-nil old.seen) i; looks = sym (append-nil old.looks) i }) }

pub looked_once : (old new : PassState (List ℕ)) (flags : Standing) → IsLook old new flags → HasLooked old new
looked_once old new flags look = record { seen = flags ∷ []; pass = look.pass }

-- a hold after which the pass knows the journal that it met, or more
pub held_on : (old new : PassState (List ℕ)) (journal : Journal) → Meets old journal → BeginsWith new.known journal → new ≡ record old { known = new.known; seen = [] } → ((number : ℕ) → ranges_by number new.known ≡ ranges_by number journal) → GoesOn old new
held_on old new journal met begins is same = let saw = met.saw in record {
  of = ap (λ (p : PassState (List ℕ)). p.of) is;
  number = ap (λ (p : PassState (List ℕ)). p.number) is;
  children = ap (λ (p : PassState (List ℕ)). p.children) is;
  known = begins_further old.known journal new.known (saw_begins old.known journal old.seen saw) begins;
  ends = λ met. shown_end new (ap (λ (p : PassState (List ℕ)). p.seen) is) (end_stays journal new.known begins (met_end old.known journal old.seen saw met));
  ended = λ known number. same number ∙ reports_rest old.of.terms old.known journal (saw_begins old.known journal old.seen saw) met.lawful known number;
}

pub stays_known : (old new : PassState (List ℕ)) (hold : IsHold old new Stays) → new.known ≡ hold.journal
stays_known old new hold = ap (λ (f : Future (List ℕ)). f.calls) hold.done

pub stayed_on : (old new : PassState (List ℕ)) → IsHold old new Stays → GoesOn old new
stayed_on old new hold = held_on old new hold.journal hold.met (subst (λ k. BeginsWith k hold.journal) (sym (stays_known old new hold)) (begins_same hold.journal)) hold.pass (λ number. ap (ranges_by number) (stays_known old new hold))

-- an end that is known stays known
pub knows_on : (old new : PassState (List ℕ)) → GoesOn old new → KnowsEnd old → KnowsEnd new
knows_on old new on known = end_stays old.known new.known on.known known

-- what was left stays so
pub left_on : (n number : ℕ) (old new : PassState (List ℕ)) → GoesOn old new → (claim : Addition) → IsLeft n number old claim → IsLeft n number new claim
left_on n number old new on claim left = record {
  ended = knows_on old new on left.ended;
  uncovered = λ index low high. ap (λ ranges. times_covered ranges index) (on.ended left.ended number) ∙ left.uncovered index low high;
}

pub goes_further : (old mid new : PassState (List ℕ)) → GoesOn old mid → GoesOn mid new → GoesOn old new
goes_further old mid new first second = record {
  of = second.of ∙ first.of;
  number = second.number ∙ first.number;
  children = second.children ∙ first.children;
  known = begins_further old.known mid.known new.known first.known second.known;
  ends = λ met. second.ends (first.ends met);
  ended = λ known number. second.ended (knows_on old mid first known) number ∙ first.ended known number;
}

pub goes_same : (pass : PassState (List ℕ)) → GoesOn pass pass
goes_same pass = looked_on pass pass (looked_same pass pass refl)

-- what was made on a later part of the way
pub made_since : (old mid new : PassState (List ℕ)) (request : Request (List ℕ)) → GoesOn old mid → HasMade mid new request → HasMade old new request
made_since old mid new request on made = record {
  before = made.before;
  after = made.after;
  effect = made.effect;
  earlier = goes_further old mid made.before on made.earlier;
  made = made.made;
  later = made.later;
}

-- the calls of its own number stay
pub stayed_own : (old new : PassState (List ℕ)) → IsHold old new Stays → calls_by new.number new.known ≡ calls_by old.number old.known
stayed_own old new hold =
    ap (λ n. calls_by n new.known) (ap (λ (p : PassState (List ℕ)). p.number) hold.pass)
    ∙ ap (calls_by old.number) (stays_known old new hold)
    ∙ hold.met.own

pub looked_own : (old new : PassState (List ℕ)) → HasLooked old new → calls_by new.number new.known ≡ calls_by old.number old.known
looked_own old new looked = ap (λ (p : PassState (List ℕ)). calls_by p.number p.known) looked.pass

-- ---- what was handed in stays handed in

pub contained_on : (number : ℕ) (first later : Journal) (range : ℕ × ℕ) → BeginsWith later first → Contains (ranges_by number first) range → Contains (ranges_by number later) range
contained_on number first later range begins there =
    subst (λ ranges. Contains ranges range) (sym (ap (ranges_by number) begins.is ∙ ranges_by-append number first begins.later))
    (Contains-append_left (ranges_by number first) (ranges_by number begins.later) range there)

pub strange_on : (number : ℕ) (first later : Journal) → BeginsWith later first → IsTrue (list_any (is_strange number) first) → IsTrue (list_any (is_strange number) later)
strange_on number first later begins there =
    ap (list_any (is_strange number)) begins.is ∙ list_any-append (is_strange number) first begins.later
    ∙ left_true (list_any (is_strange number) first) (list_any (is_strange number) begins.later) there

pub handed_on : (n number : ℕ) (claims : List Addition) (old new : PassState (List ℕ)) → GoesOn old new → AreHandedIn n number claims old → AreHandedIn n number claims new
handed_on n number claims old new on handed = elim handed [
  | inl reported ↦ inl (All-weaker (λ claim. Contains (ranges_by number old.known) (clipped n claim)) (λ claim. Contains (ranges_by number new.known) (clipped n claim)) (λ claim. contained_on number old.known new.known (clipped n claim) on.known) claims reported)
  | inr (inl met) ↦ inr (inl (on.ends met))
  | inr (inr strange) ↦ inr (inr (strange_on number old.known new.known on.known strange))
]

-- ---- looks, one after the other

pub watch_from : (old new : PassState (List ℕ)) (flags : Standing) → IsLook old new flags → IsWatch old new flags
watch_from old new flags look = record { journal = look.journal; met = look.met; now = look.now; before = []; pass = look.pass }

pub looked_while : (old new : PassState (List ℕ)) (flags : Standing) → IsWatch old new flags → HasLooked old new
looked_while old new flags watch = record { seen = watch.before ++ flags ∷ []; pass = watch.pass }

-- where the last of them shows no end, none was met before
pub none_met : (old new : PassState (List ℕ)) (flags : Standing) → IsWatch old new flags → shows_end flags ≡ false → HasMetEnd old → ⊥
none_met old new flags watch none met =
    let now = (looked_on old new (looked_while old new flags watch)).ends met in
    let there : shows_end (flags_at watch.journal) ≡ true = met_end new.known watch.journal new.seen watch.met.saw now in
    false≢true (sym none ∙ ap shows_end watch.now ∙ there)

-- ---- a call of its own

-- the pass made this call, if that had an effect
pub record HasCalled (old new : PassState (List ℕ)) (call : Call) (item : List ℕ) : Type 0 where
  pub journal : Journal
  pub met : Meets old journal
  pub future : future_at old.of.terms new.known ≡ (by_row (future_at old.of.terms journal) old.number call item).future
  pub pass : new ≡ record old { known = new.known; seen = [] }

module _ (old new : PassState (List ℕ)) (call : Call) (item : List ℕ) (made : HasCalled old new call item) where
  abbrev before : Future (List ℕ)
  before = future_at old.of.terms made.journal

  either : (new.known ≡ made.journal) ⊎ (new.known ≡ made.journal ++ logged_by before old.number call [] item ∷ [])
  either = elim (row_either before old.number call item) [
    | inl same ↦ inl (ap (λ (f : Future (List ℕ)). f.calls) (made.future ∙ same))
    | inr more ↦ inr (ap (λ (f : Future (List ℕ)). f.calls) (made.future ∙ more.new_is))
  ]

  pub called_on : is_report call ≡ false → GoesOn old new
  called_on other = held_on old new made.journal made.met begins made.pass same
    where
      same : (number : ℕ) → ranges_by number new.known ≡ ranges_by number made.journal
      same number = elim either [
        | inl is ↦ ap (ranges_by number) is
        | inr more ↦
            let logged = logged_by before old.number call [] item in
            ap (ranges_by number) more ∙ ranges_by-append number made.journal (logged ∷ [])
            ∙ ap (λ ranges. ranges_by number made.journal ++ ranges) (none_reported number logged [] (no_batch call [] other) refl)
            ∙ append-nil (ranges_by number made.journal)
      ]

      begins : BeginsWith new.known made.journal
      begins = elim either [
        | inl same ↦ subst (λ k. BeginsWith k made.journal) (sym same) (begins_same made.journal)
        | inr more ↦ subst (λ k. BeginsWith k made.journal) (sym more) (begins_more made.journal (logged_by before old.number call [] item ∷ []))
      ]

  pub called_own : (P : Logged (List ℕ) → Type 0) → All P (calls_by old.number old.known) → ((logged : Logged (List ℕ)) → logged.entry.call ≡ call → logged.item ≡ item → P logged) → All P (calls_by new.number new.known)
  called_own P all one =
      let number : new.number ≡ old.number = ap (λ (p : PassState (List ℕ)). p.number) made.pass in
      let all' : All P (calls_by old.number made.journal) = subst (All P) (sym made.met.own) all in
      let logged = logged_by before old.number call [] item in
      subst (λ k. All P (calls_by k new.known)) (sym number)
      (elim either [
        | inl same ↦ subst (λ k. All P (calls_by old.number k)) (sym same) all'
        | inr more ↦
            subst (All P) (sym (ap (calls_by old.number) more ∙ calls_by-append old.number made.journal (logged ∷ []) ∙ ap (λ calls. calls_by old.number made.journal ++ calls) (own_call old.number logged refl)))
            (All-push P (calls_by old.number made.journal) logged all' (one logged refl refl))
      ])

  -- a fail or a cancel leaves an end
  pub called_end : ((s : Standing) (reached : Reached) → shows_end (after s call reached) ≡ true) → ((s : Standing) → has_effect s call ≡ false → shows_end s ≡ true) → KnowsEnd new
  called_end ends stood =
      ap (λ (f : Future (List ℕ)). shows_end (flags_of f)) made.future ∙ by (has_effect (flags_of before) call) refl
    where
      by : (b : Bool) → has_effect (flags_of before) call ≡ b
          → shows_end (flags_of (if b then record { future = with_call before (logged_by before old.number call [] item); told = Effect b } else stays before (Effect b)).future) ≡ true
      by true e = ap shows_end (flags-push before (logged_by before old.number call [] item)) ∙ ends (flags_of before) (logged_by before old.number call [] item).entry.reached
      by false e = stood (flags_of before) e

pub canceled_ends : (s : Standing) (reached : Reached) → shows_end (after s Cancel reached) ≡ true
canceled_ends s reached = grind arith

pub canceled_stood : (s : Standing) → has_effect s Cancel ≡ false → shows_end s ≡ true
canceled_stood s h = grind arith

pub failed_ends : (index : ℕ) (s : Standing) (reached : Reached) → shows_end (after s (Fail index) reached) ≡ true
failed_ends index s reached = grind arith

pub failed_stood : (index : ℕ) (s : Standing) → has_effect s (Fail index) ≡ false → shows_end s ≡ true
failed_stood index s h = grind arith

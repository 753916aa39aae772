-- Flags that stand for good.
use Rattle.std.proofs.Common.{◌≡◌, ◌⊎◌, inl, inr, Bool, true, false, ◌||◌, List, [], ◌∷◌, ◌++◌, IsTrue, fold, if◌then◌else◌, refl, ap, sym, ◌∙◌, subst, append-nil}
use Rattle.std.specs.List.{list_any}
use Rattle.std.proofs.lemmas.List.{map-append}
use Rattle.std.proofs.lemmas.List.Sums.{fold-append}
use Rattle.qtc_events.specs.Flags.{Standing, new_flags}
use Rattle.qtc_events.specs.Calls.{after}
use Rattle.qtc_events.specs.Journal.{after_entry}
use Rattle.qtc_events.specs.Laws.{FlagsStay, JournalsEnd, ThresholdsAct}
use Rattle.qtc_events.specs.declared.calls.Call.{Call}
use Rattle.qtc_events.specs.declared.entries.Entry.{Entry}
use Rattle.qtc_events.specs.declared.entries.Reached.{Reached}
use Rattle.qtc_future.specs.Future.{Future, Logged, entries_of}
use Rattle.qtc_future.specs.Legal.{IsLegal}
use Rattle.qtc_future.specs.Steps.{Stepped, dropped}
use Rattle.qtc_future.proofs.Legality.{ends_are_last}
use Rattle.qtc_shared.specs.Journals.{BeginsWith, Saw, flags_at}
use Rattle.qtc_shared.specs.Parts.{future_at}
use Rattle.qtc_shared.specs.Passes.{PassState, Meets}
use Rattle.qtc_shared.specs.Laws.{has_seen, is_started, is_canceled, is_finished, is_ended, SeenFlagsStay, SeenEndsDropAll, KnownIsKept}
use Rattle.qtc_shared.proofs.Prefixes.{saw_begins}
use Rattle.qtc_shared.proofs.Chains.{holds_continue}

-- a flag that no entry clears
abbrev StaysSet : (Standing → Bool) → Type 0
StaysSet test = (s : Standing) (call : Call) (reached : Reached) → IsTrue (test s) → IsTrue (test (after s call reached))

either : (a b : Bool) → IsTrue (a || b) → IsTrue a ⊎ IsTrue b
either true b h = inl refl
either false b h = inr h

left : (a b : Bool) → IsTrue a → IsTrue (a || b)
left true b h = refl
left false b h = absurd (cc)

right : (a b : Bool) → IsTrue b → IsTrue (a || b)
right true b h = refl
right false b h = h

module _ (test : Standing → Bool) (stays : StaysSet test) where
  fold_stays : (s : Standing) (entries : List Entry) → IsTrue (test s) → IsTrue (test (fold after_entry s entries))
  fold_stays s [] h = h
  fold_stays s (entry ∷ entries) h = fold_stays (after_entry s entry) entries (stays s entry.call entry.reached h)

  module _ {V : Type 0} where
    longer_stays : (journal first : List (Logged V)) → BeginsWith journal first → IsTrue (test (flags_at first)) → IsTrue (test (flags_at journal))
    longer_stays journal first begins h =
        let parts : entries_of journal ≡ entries_of first ++ entries_of begins.later = ap entries_of begins.is ∙ map-append (λ (l : Logged V). l.entry) first begins.later in
        subst (λ s. IsTrue (test s)) (sym (ap (fold after_entry new_flags) parts ∙ fold-append after_entry new_flags (entries_of first) (entries_of begins.later)))
        (fold_stays (flags_at first) (entries_of begins.later) h)

    saw_stays : (known journal : List (Logged V)) (seen : List Standing) → Saw known journal seen → IsTrue (test (flags_at known) || list_any test seen) → IsTrue (test (flags_at journal))
    saw_stays known journal [] saw h = elim (either (test (flags_at known)) false h) [
      | inl before ↦ longer_stays journal known saw before
      | inr none ↦ absurd (cc)
    ]
    saw_stays known journal (flags ∷ seen) saw h =
        let first = saw.0 in
        saw_stays first journal seen saw.3
        (elim (either (test (flags_at known)) (test flags || list_any test seen) h) [
          | inl before ↦ left (test (flags_at first)) (list_any test seen) (longer_stays first known saw.1 before)
          | inr now ↦ subst (λ f. IsTrue (test f || list_any test seen)) saw.2 now
        ])

    pub met_stays : (pass : PassState V) (journal : List (Logged V)) → Meets pass journal → IsTrue (has_seen test pass) → IsTrue (test (flags_at journal))
    met_stays pass journal met h = saw_stays pass.known journal pass.seen met.saw h

pub seen_flags_stay : (V : Type 0) → FlagsStay → SeenFlagsStay V
seen_flags_stay V law = record {
  started = met_stays is_started law.started;
  canceled = met_stays is_canceled law.canceled;
  finished = met_stays is_finished law.finished;
}

ended_stays : FlagsStay → StaysSet is_ended
ended_stays law s call reached h = elim (either s.canceled s.finished h) [
  | inl canceled ↦ left (after s call reached).canceled (after s call reached).finished (law.canceled s call reached canceled)
  | inr finished ↦ right (after s call reached).canceled (after s call reached).finished (law.finished s call reached finished)
]

dropped_where : {V : Type 0} (future : Future V) (going : Stepped V) (b : Bool) → IsTrue b → (if b then dropped future else going) ≡ dropped future
dropped_where future going true h = refl
dropped_where future going false h = absurd (cc)

pub seen_ends_drop_all : (V : Type 0) → FlagsStay → SeenEndsDropAll V
seen_ends_drop_all V law = record {
  report = λ pass journal begin total values met h. dropped_where (future_at pass.of.terms journal) _ _ (met_stays is_ended (ended_stays law) pass journal met h);
  add = λ pass journal index value met h. dropped_where (future_at pass.of.terms journal) _ _ (met_stays is_ended (ended_stays law) pass journal met h);
  account = λ pass journal total met h. dropped_where (future_at pass.of.terms journal) _ _ (met_stays is_ended (ended_stays law) pass journal met h);
}

pub known_is_kept : (V : Type 0) → ThresholdsAct → JournalsEnd → KnownIsKept V
known_is_kept V acts ends = record {
  begins = λ pass journal met. saw_begins pass.known journal pass.seen met.saw;
  last = λ pass journal met finished.
      let begins = saw_begins pass.known journal pass.seen met.saw in
      let legal : IsLegal (future_at pass.of.terms (pass.known ++ begins.later)) = subst (λ j. IsLegal (future_at pass.of.terms j)) begins.is met.lawful.legal in
      let none : begins.later ≡ [] = (ends_are_last V acts ends).finished (future_at pass.of.terms pass.known) begins.later legal finished in
      begins.is ∙ ap (λ xs. pass.known ++ xs) none ∙ append-nil pass.known;
  later = λ old new journal hold met. (holds_continue old new hold).met journal met;
}

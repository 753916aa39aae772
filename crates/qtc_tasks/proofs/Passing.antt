-- What holds and looks of a pass add to what it knows, and the ends that it sees.
use Rattle.std.proofs.Common.{◌≡◌, ◌⊎◌, inl, inr, ℕ, Bool, true, false, ◌||◌, ◌==◌, List, [], ◌∷◌, ◌++◌, All, IsTrue, fold, refl, ap, sym, ◌∙◌, subst, append_assoc, append-nil, eq-eqb, arith}
use Rattle.std.specs.List.{list_any}
use Rattle.std.proofs.lemmas.List.{map-append}
use Rattle.std.proofs.lemmas.List.Elements.{filter-append}
use Rattle.std.proofs.lemmas.List.Folds.{list_any-append}
use Rattle.std.proofs.lemmas.List.Sums.{fold-append}
use Rattle.qtc_events.specs.Flags.{Standing, new_flags}
use Rattle.qtc_events.specs.Calls.{after, cancels, cancels_by_threshold, finishes}
use Rattle.qtc_events.specs.Journal.{after_entry}
use Rattle.qtc_events.specs.declared.calls.Call.{Call}
use Rattle.qtc_events.specs.declared.entries.Entry.{Entry}
use Rattle.qtc_events.specs.declared.entries.Reached.{Reached}
use Rattle.qtc_events.proofs.Rows.{canceled_after, finished_after}
use Rattle.qtc_future.specs.Future.{Future, Logged, entries_of}
use Rattle.qtc_shared.specs.Journals.{BeginsWith, IsJournal, Saw, calls_by, flags_at}
use Rattle.qtc_shared.specs.Laws.{has_seen, is_ended}
use Rattle.qtc_shared.specs.Passes.{PassState, IsHold, IsLook, IsWatch, Meets, having_seen}
use Rattle.qtc_shared.proofs.Prefixes.{begins_further, begins_same, saw_begins}
use Rattle.qtc_shared.proofs.Staying.{met_stays}

or_parts : (a b c : Bool) → (a || (b || c)) ≡ ((a || b) || c)
or_parts true b c = refl
or_parts false b c = refl

or_first : (a b : Bool) → IsTrue a → IsTrue (a || b)
or_first true b h = refl
or_first false b h = absurd (cc)

further_sees : (a b c d : Bool) → (IsTrue (a || b) → IsTrue c) → IsTrue (a || (b || d)) → IsTrue (c || d)
further_sees true b c d f h = or_first c d (f refl)
further_sees false true c d f h = or_first c d (f refl)
further_sees false false true d f h = refl
further_sees false false false d f h = h

-- an end stays
or_more : (a b x y : Bool) → IsTrue (a || b) → IsTrue ((a || x) || (b || y))
or_more true b x y h = refl
or_more false true true y h = refl
or_more false true false y h = refl
or_more false false x y h = absurd (cc)

pub ended_stays : (s : Standing) (call : Call) (reached : Reached) → IsTrue (is_ended s) → IsTrue (is_ended (after s call reached))
ended_stays s call reached h =
    subst (λ b. IsTrue (b || (after s call reached).finished)) (sym (canceled_after s call reached))
    (subst (λ b. IsTrue ((s.canceled || (cancels call || cancels_by_threshold reached)) || b)) (sym (finished_after s call reached)) (or_more s.canceled s.finished (cancels call || cancels_by_threshold reached) (finishes call) h))

fold_ended : (s : Standing) (entries : List Entry) → IsTrue (is_ended s) → IsTrue (is_ended (fold after_entry s entries))
fold_ended s [] h = h
fold_ended s (entry ∷ entries) h = fold_ended (after_entry s entry) entries (ended_stays s entry.call entry.reached h)

module _ {V : Type 0} where
  pub flags_later : (first later : List (Logged V)) → flags_at (first ++ later) ≡ fold after_entry (flags_at first) (entries_of later)
  flags_later first later =
      ap (fold after_entry new_flags) (map-append (λ (l : Logged V). l.entry) first later)
      ∙ fold-append after_entry new_flags (entries_of first) (entries_of later)

  pub later_ended : (first later : List (Logged V)) → IsTrue (is_ended (flags_at first)) → IsTrue (is_ended (flags_at (first ++ later)))
  later_ended first later h = subst (λ s. IsTrue (is_ended s)) (sym (flags_later first later)) (fold_ended (flags_at first) (entries_of later) h)

  pub met_ended : (pass : PassState V) (journal : List (Logged V)) → Meets pass journal → IsTrue (has_seen is_ended pass) → IsTrue (is_ended (flags_at journal))
  met_ended pass journal met h = met_stays is_ended ended_stays pass journal met h

  -- what a pass came to: it knows these calls of its own more, and read these flags
  pub record Goes (old new : PassState V) (own : List (Logged V)) (read : List Standing) : Type 0 where
    pub pass : new ≡ record old { known = new.known; seen = new.seen; looks = old.looks ++ read }
    pub knew : BeginsWith new.known old.known
    pub calls : calls_by old.number new.known ≡ calls_by old.number old.known ++ own
    -- an end that it saw or read it has seen
    pub sees : IsTrue (has_seen is_ended old || list_any is_ended read) → IsTrue (has_seen is_ended new)

  pub goes_same : (pass : PassState V) → Goes pass pass [] []
  goes_same pass = record {
    pass = λ i. record pass { looks = sym (append-nil pass.looks) i };
    knew = begins_same pass.known;
    calls = sym (append-nil (calls_by pass.number pass.known));
    sees = λ h. subst IsTrue (or_false (has_seen is_ended pass)) h;
  }
    where
      or_false : (b : Bool) → (b || false) ≡ b
      or_false true = refl
      or_false false = refl

  pub goes_further : (a b c : PassState V) (own own' : List (Logged V)) (read read' : List Standing) → Goes a b own read → Goes b c own' read' → Goes a c (own ++ own') (read ++ read')
  goes_further a b c own own' read read' first second =
      let number : b.number ≡ a.number = ap (λ p. p.number) first.pass in
      record {
        pass = second.pass
            ∙ ap (λ (p : PassState V). record p { known = c.known; seen = c.seen; looks = p.looks ++ read' }) first.pass
            ∙ (λ i. record a { known = c.known; seen = c.seen; looks = append_assoc a.looks read read' i });
        knew = begins_further a.known b.known c.known first.knew second.knew;
        calls = subst (λ n. calls_by n c.known ≡ calls_by n b.known ++ own') number second.calls
            ∙ ap (λ xs. xs ++ own') first.calls
            ∙ append_assoc (calls_by a.number a.known) own own';
        sees = λ h. second.sees (further_sees (has_seen is_ended a) (list_any is_ended read) (has_seen is_ended b) (list_any is_ended read') first.sees
            (subst (λ x. IsTrue (has_seen is_ended a || x)) (list_any-append is_ended read read') h));
      }

  -- a hold that logs these calls of the pass
  pub hold_goes : (old new : PassState V) (Does : Future V → Future V → Type 0) (own : List (Logged V)) → (hold : IsHold old new Does) → new.known ≡ hold.journal ++ own → calls_by old.number own ≡ own → Goes old new own []
  hold_goes old new Does own hold after mine = record {
    pass = hold.pass ∙ (λ i. record old { known = new.known; seen = ap (λ (p : PassState V). p.seen) (sym hold.pass) i; looks = sym (append-nil old.looks) i });
    knew = begins_further old.known hold.journal new.known (saw_begins old.known hold.journal old.seen hold.met.saw) (record { later = own; is = after });
    calls = ap (calls_by old.number) after
        ∙ filter-append (λ (l : Logged V). l.entry.caller == old.number) hold.journal own
        ∙ ap (λ xs. xs ++ calls_by old.number own) hold.met.own
        ∙ ap (λ xs. calls_by old.number old.known ++ xs) mine;
    sees = λ h.
        let before = met_ended old hold.journal hold.met (subst IsTrue (or_none (has_seen is_ended old)) h) in
        or_first (is_ended (flags_at new.known)) (list_any is_ended new.seen)
        (subst (λ j. IsTrue (is_ended (flags_at j))) (sym after) (later_ended hold.journal own before));
  }
    where
      or_none : (b : Bool) → (b || false) ≡ b
      or_none true = refl
      or_none false = refl

  -- flags that were read
  pub look_goes : (old new : PassState V) (read : List Standing) → new ≡ having_seen old read → Goes old new [] read
  look_goes old new read is =
      let known : new.known ≡ old.known = ap (λ p. p.known) is in
      record {
        pass = is ∙ (λ i. record old { known = sym known i; seen = ap (λ (p : PassState V). p.seen) (sym is) i; looks = old.looks ++ read });
        knew = subst (λ j. BeginsWith j old.known) (sym known) (begins_same old.known);
        calls = ap (calls_by old.number) known ∙ sym (append-nil (calls_by old.number old.known));
        sees = λ h. subst (λ (p : PassState V). IsTrue (has_seen is_ended p)) (sym is)
            (subst (λ b. IsTrue (is_ended (flags_at old.known) || b)) (sym (list_any-append is_ended old.seen read))
            (subst IsTrue (sym (or_parts (is_ended (flags_at old.known)) (list_any is_ended old.seen) (list_any is_ended read))) h));
      }

  pub own_call : (number : ℕ) (logged : Logged V) → logged.entry.caller ≡ number → calls_by number (logged ∷ []) ≡ logged ∷ []
  own_call number logged is = let same : (logged.entry.caller == number) ≡ true = eq-eqb logged.entry.caller number is in rw same refl

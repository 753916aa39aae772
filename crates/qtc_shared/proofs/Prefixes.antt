-- Journals that begin with others, and what a pass saw on the way.
use Rattle.std.proofs.Common.{◌≡◌, ◌≢◌, ◌<◌, ◌==◌, ℕ, Bool, true, false, All, List, [], ◌∷◌, ◌++◌, refl, ap, sym, ◌∙◌, append_assoc, append-nil, arith}
use Rattle.std.proofs.lemmas.Bool.Decides.{nat_tests}
use Rattle.std.proofs.lemmas.List.Elements.{All-head, All-tail, filter-append}
use Rattle.qtc_events.specs.Flags.{Standing}
use Rattle.qtc_future.specs.Future.{Logged}
use Rattle.qtc_shared.specs.Journals.{BeginsWith, Saw, calls_by, flags_at}
use Rattle.qtc_shared.specs.Parts.{PassPart}
use Rattle.qtc_shared.specs.Rule.{Fits, learned, saw_flags}

module _ {V : Type 0} where
  pub begins_same : (journal : List (Logged V)) → BeginsWith journal journal
  begins_same journal = record { later = []; is = sym (append-nil journal) }

  pub begins_push : (journal : List (Logged V)) (logged : Logged V) → BeginsWith (journal ++ logged ∷ []) journal
  begins_push journal logged = record { later = logged ∷ []; is = refl }

  pub begins_further : (a b c : List (Logged V)) → BeginsWith b a → BeginsWith c b → BeginsWith c a
  begins_further a b c first second = record {
    later = first.later ++ second.later;
    is = second.is ∙ ap (λ xs. xs ++ second.later) first.is ∙ append_assoc a first.later second.later;
  }

  pub saw_begins : (known journal : List (Logged V)) (seen : List Standing) → Saw known journal seen → BeginsWith journal known
  saw_begins known journal [] saw = saw
  saw_begins known journal (flags ∷ seen) saw = begins_further known saw.0 journal saw.1 (saw_begins saw.0 journal seen saw.3)

  -- the journal grew
  pub saw_later : (known journal later : List (Logged V)) (seen : List Standing) → Saw known journal seen → BeginsWith later journal → Saw known later seen
  saw_later known journal later [] saw grew = begins_further known journal later saw grew
  saw_later known journal later (flags ∷ seen) saw grew = (saw.0, saw.1, saw.2, saw_later saw.0 journal later seen saw.3 grew)

  -- the flags of the journal were seen
  pub saw_more : (known journal : List (Logged V)) (seen : List Standing) (flags : Standing) → Saw known journal seen → flags ≡ flags_at journal → Saw known journal (seen ++ flags ∷ [])
  saw_more known journal [] flags saw is = (journal, saw, is, begins_same journal)
  saw_more known journal (first ∷ seen) flags saw is = (saw.0, saw.1, saw.2, saw_more saw.0 journal seen flags saw.3 is)

  -- the call of another number
  other_call : (number : ℕ) (logged : Logged V) → logged.entry.caller ≢ number → calls_by number (logged ∷ []) ≡ []
  other_call number logged other = by (logged.entry.caller == number) refl
    where
      by : (b : Bool) → (logged.entry.caller == number) ≡ b → calls_by number (logged ∷ []) ≡ []
      by true e = absurd (other (grind (arith, nat_tests)))
      by false e = rw e refl

  pub calls_by-push : (number : ℕ) (journal : List (Logged V)) (logged : Logged V) → logged.entry.caller ≢ number → calls_by number (journal ++ logged ∷ []) ≡ calls_by number journal
  calls_by-push number journal logged other =
      filter-append (λ (l : Logged V). l.entry.caller == number) journal (logged ∷ [])
      ∙ ap (λ xs. calls_by number journal ++ xs) (other_call number logged other)
      ∙ append-nil (calls_by number journal)

  -- all calls are of lesser numbers
  pub none_by : (number : ℕ) (journal : List (Logged V)) → All (λ (l : Logged V). l.entry.caller < number) journal → calls_by number journal ≡ []
  none_by number [] callers = refl
  none_by number (logged ∷ journal) callers =
      let less = All-head (λ (l : Logged V). l.entry.caller < number) logged journal callers in
      filter-append (λ (l : Logged V). l.entry.caller == number) (logged ∷ []) journal
      ∙ ap (λ xs. xs ++ calls_by number journal) (other_call number logged (λ same. absurd (omega arith)))
      ∙ none_by number journal (All-tail (λ (l : Logged V). l.entry.caller < number) logged journal callers)

  -- what a pass knows, and what fits
  pub fits_learned : (journal : List (Logged V)) (pass : PassPart V) → Fits journal (learned journal pass)
  fits_learned journal pass = record { saw = begins_same journal; own = refl }

  pub fits_later : (journal : List (Logged V)) (logged : Logged V) (pass : PassPart V) → logged.entry.caller ≢ pass.number → Fits journal pass → Fits (journal ++ logged ∷ []) pass
  fits_later journal logged pass other fits = record {
    saw = saw_later pass.known journal (journal ++ logged ∷ []) pass.seen fits.saw (begins_push journal logged);
    own = calls_by-push pass.number journal logged other ∙ fits.own;
  }

  pub fits_look : (journal : List (Logged V)) (flags : Standing) (pass : PassPart V) → flags ≡ flags_at journal → Fits journal pass → Fits journal (saw_flags flags pass)
  fits_look journal flags pass is fits = record { saw = saw_more pass.known journal pass.seen flags fits.saw is; own = fits.own }

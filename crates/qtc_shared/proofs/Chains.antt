-- Holds and looks, one after the other.
use Rattle.std.proofs.Common.{◌≡◌, List, [], ◌∷◌, ◌++◌, refl, ap, ◌∙◌, subst, append_assoc}
use Rattle.qtc_events.specs.Flags.{Standing}
use Rattle.qtc_future.specs.Future.{Future, Logged}
use Rattle.qtc_shared.specs.Journals.{BeginsWith, IsJournal, Saw, calls_by}
use Rattle.qtc_shared.specs.Parts.{future_at}
use Rattle.qtc_shared.specs.Passes.{FutureId, PassState, Meets, IsHold, IsLook, IsWatch, Finds, Stays, having_seen}
use Rattle.qtc_shared.proofs.Prefixes.{saw_later}

-- whatever the pass meets now, it would have met before
pub record Continues {V : Type 0} (old now : PassState V) : Type 0 where
  pub of : now.of ≡ old.of
  pub number : now.number ≡ old.number
  pub looks : now.looks ≡ old.looks
  pub children : now.children ≡ old.children
  pub met : (journal : List (Logged V)) → Meets now journal → Meets old journal

module _ {V : Type 0} where
  pub continues_same : (pass : PassState V) → Continues pass pass
  continues_same pass = record { of = refl; number = refl; looks = refl; children = refl; met = λ journal met. met }

  -- the journal of a hold in which nothing was done
  stays_at : (of : FutureId) (journal known : List (Logged V)) → Stays (future_at of.terms journal) (future_at of.terms known) → known ≡ journal
  stays_at of journal known stays = ap (λ f. f.calls) stays

  pub holds_continue : (old now : PassState V) → IsHold old now Stays → Continues old now
  holds_continue old now hold = record {
    of = ap (λ p. p.of) hold.pass;
    number = ap (λ p. p.number) hold.pass;
    looks = ap (λ p. p.looks) hold.pass;
    children = ap (λ p. p.children) hold.pass;
    met = λ journal met.
        let known : now.known ≡ hold.journal = stays_at old.of hold.journal now.known hold.done in
        let grew : BeginsWith journal hold.journal = subst (λ xs. BeginsWith journal xs) known (subst (λ s. Saw now.known journal s) (ap (λ p. p.seen) hold.pass) met.saw) in
        record {
          lawful = subst (λ (f : FutureId). IsJournal f.terms journal) (ap (λ p. p.of) hold.pass) met.lawful;
          saw = saw_later old.known hold.journal journal old.seen hold.met.saw grew;
          own = subst (λ n. calls_by n journal ≡ calls_by n now.known) (ap (λ p. p.number) hold.pass) met.own ∙ ap (calls_by old.number) known ∙ hold.met.own;
        };
  }

  pub nothing_done : (old now : PassState V) (IsThere : Future V → Type 0) → IsHold old now (Finds IsThere) → IsHold old now Stays
  nothing_done old now IsThere hold = record { journal = hold.journal; met = hold.met; done = hold.done.0; pass = hold.pass }

  pub continues_further : (a b c : PassState V) → Continues a b → Continues b c → Continues a c
  continues_further a b c first second = record {
    of = second.of ∙ first.of;
    number = second.number ∙ first.number;
    looks = second.looks ∙ first.looks;
    children = second.children ∙ first.children;
    met = λ journal met. first.met journal (second.met journal met);
  }

  -- a hold after others
  pub hold_further : (old now new : PassState V) (Does : Future V → Future V → Type 0) → Continues old now → IsHold now new Does → IsHold old new Does
  hold_further old now new Does goes_on hold = record {
    journal = hold.journal;
    met = goes_on.met hold.journal hold.met;
    done = subst (λ (f : FutureId). Does (future_at f.terms hold.journal) (future_at f.terms new.known)) goes_on.of hold.done;
    pass = hold.pass ∙ (λ i. record { of = goes_on.of i; number = goes_on.number i; known = new.known; seen = []; looks = goes_on.looks i; children = goes_on.children i });
  }

  -- a look after others
  pub look_begins : (old new : PassState V) (flags : Standing) → IsLook old new flags → IsWatch old new flags
  look_begins old new flags look = record {
    journal = look.journal;
    met = look.met;
    now = look.now;
    before = [];
    pass = look.pass;
  }

  pub look_further : (old now new : PassState V) (first flags : Standing) → IsWatch old now first → IsLook now new flags → IsWatch old new flags
  look_further old now new first flags watch look =
      let more : (before : List Standing) → before ++ (watch.before ++ first ∷ []) ++ flags ∷ [] ≡ before ++ (watch.before ++ first ∷ [] ++ flags ∷ []) = λ before. append_assoc before (watch.before ++ first ∷ []) (flags ∷ []) in
      record {
        journal = look.journal;
        met = look.met;
        now = look.now;
        before = watch.before ++ first ∷ [];
        pass = look.pass ∙ ap (λ (p : PassState V). having_seen p (flags ∷ [])) watch.pass
            ∙ (λ i. record old { seen = more old.seen i; looks = more old.looks i });
      }

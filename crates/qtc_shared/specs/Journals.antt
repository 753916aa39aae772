-- What is said of the journal of a shared future: how far a pass saw it, and whose calls it has. (Own.)
use Rattle.std.specs.Prelude.{◌≡◌, ◌<◌, ◌⊎◌, ◌==◌, ℕ, Bool, true, false, List, [], ◌∷◌, ◌++◌, All, IsTrue, filter}
use Rattle.qtc_events.specs.Flags.{Standing, flags_in, word_count}
use Rattle.qtc_events.specs.Journal.{flags_after_all}
use Rattle.qtc_events.specs.declared.calls.Call.{Call}
use Rattle.qtc_events.specs.declared.calls.Call.TheVariants.{Report, Account, Fail, Finish}
use Rattle.qtc_future.specs.Future.{Logged, entries_of}
use Rattle.qtc_future.specs.Legal.{IsLegal}
use Rattle.qtc_shared.specs.Parts.{Terms, future_at}

-- the journal begins with those calls
pub record BeginsWith {V : Type 0} (journal first : List (Logged V)) : Type 0 where
  pub later : List (Logged V)
  pub is : journal ≡ first ++ later

-- the flags that stand after these calls
abbrev pub flags_at : {V : Type 0} → List (Logged V) → Standing
flags_at journal = flags_after_all (entries_of journal)

-- a word that shows the flags of the journal
pub record Shows {V : Type 0} (journal : List (Logged V)) (word : ℕ) : Type 0 where
  pub small : word < word_count
  pub flags : flags_in word ≡ flags_at journal

-- these flags stood one after the other on the way from what was known to the journal: each of them at a journal that
-- begins with the one before
abbrev pub Saw : {V : Type 0} → (known journal : List (Logged V)) → (seen : List Standing) → Type 0
Saw known journal [] = BeginsWith journal known
Saw {V} known journal (flags ∷ seen) =
    (then : List (Logged V)) × BeginsWith then known × (flags ≡ flags_at then) × Saw then journal seen

-- the calls of one number, in order
abbrev pub calls_by : {V : Type 0} → ℕ → List (Logged V) → List (Logged V)
calls_by number journal = filter (λ logged. logged.entry.caller == number) journal

-- the calls that only makers may make
abbrev pub is_makers : Call → Bool
is_makers (Report begin kept total) = true
is_makers (Account total) = true
is_makers (Fail index) = true
is_makers Finish = true
is_makers _ = false

-- whoever made such a call is one of the makers
pub record IsAllowed {V : Type 0} (makers : ℕ) (logged : Logged V) : Type 0 where
  pub maker : IsTrue (is_makers logged.entry.call) → logged.entry.caller < makers

-- a journal that a future on these terms can have: each call had an effect where it stands, and those that report,
-- account, fail or finish are of makers
pub record IsJournal {V : Type 0} (terms : Terms) (journal : List (Logged V)) : Type 0 where
  pub legal : IsLegal (future_at terms journal)
  pub allowed : All (IsAllowed terms.makers) journal

-- a call of this number stands at the journal's end
pub record Grew {V : Type 0} (terms : Terms) (number : ℕ) (before after : List (Logged V)) (logged : Logged V)
    : Type 0 where
  pub caller : logged.entry.caller ≡ number
  pub allowed : IsAllowed terms.makers logged
  pub longer : after ≡ before ++ logged ∷ []

-- the journal is as it was, or has a call of this number more
abbrev pub Follows : {V : Type 0} → Terms → (number : ℕ) → (before after : List (Logged V)) → Type 0
Follows {V} terms number before after =
    (after ≡ before) ⊎ ((logged : Logged V) × Grew terms number before after logged)

-- a call of the first pass
pub record IsOfFirst {V : Type 0} (logged : Logged V) : Type 0 where
  pub caller : logged.entry.caller ≡ 0

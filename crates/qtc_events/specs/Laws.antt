-- The laws of the table of calls, in the words of a future's caller. (Own.)
use Rattle.std.specs.Prelude.{◌≡◌, ◌<◌, ◌↔◌, ℕ, false, List, [], ◌++◌, All, Contains, IsTrue}
use Rattle.qtc_events.specs.Flags.{Flag, Standing, new_flags, just, flags_in, word_of, word_count}
use Rattle.qtc_events.specs.Calls.{has_effect, after, acts_as, reached_of}
use Rattle.qtc_events.specs.Journal.{HaveEffect, acts_with_effect, flags_after_all}
use Rattle.qtc_events.specs.Replay.{replayed}
use Rattle.qtc_events.specs.declared.calls.Call.{Call}
use Rattle.qtc_events.specs.declared.calls.Call.TheVariants.{Start, Finish}
use Rattle.qtc_events.specs.declared.entries.Reached.{Reached}
use Rattle.qtc_events.specs.declared.entries.Reached.TheVariants.{Nothing}
use Rattle.qtc_events.specs.declared.entries.Entry.{Entry}
use Rattle.qtc_events.specs.declared.events.Event.TheVariants.{Started, Suspending, Suspended, Canceled, Finished}

-- a word below the number of words shows flags, and flags make such a word, each the other's
pub record WordsAreFlags : Type 0 where
  pub small : (s : Standing) → word_of s < word_count
  pub shown : (s : Standing) → flags_in (word_of s) ≡ s
  pub made : (word : ℕ) → word < word_count → word_of (flags_in word) ≡ word

-- the word of one flag, which shows that flag and no other
pub record IsWordOf (flag : Flag) (word : ℕ) : Type 0 where
  pub made : word ≡ word_of (just flag)
  pub shown : flags_in word ≡ just flag

-- once it stands, Canceled, Finished or Started stands for good
pub record FlagsStay : Type 0 where
  pub canceled :
      (s : Standing) (call : Call) (reached : Reached) → IsTrue s.canceled → IsTrue (after s call reached).canceled
  pub finished :
      (s : Standing) (call : Call) (reached : Reached) → IsTrue s.finished → IsTrue (after s call reached).finished
  pub started :
      (s : Standing) (call : Call) (reached : Reached) → IsTrue s.started → IsTrue (after s call reached).started

-- a threshold that a report or an account reaches acts with an effect
abbrev pub ThresholdsAct : Type 0
ThresholdsAct =
    (cancel_after suspend_after before after : ℕ) (s : Standing) → s.canceled ≡ false → s.finished ≡ false
    → IsTrue (acts_with_effect s (acts_as (reached_of cancel_after suspend_after s before after)))

-- where Canceled stands, a call with an effect is Finish, and where Finished stands, there is none
pub record EndsAreEnds : Type 0 where
  pub canceled : (s : Standing) (call : Call) → IsTrue s.canceled → IsTrue (has_effect s call) → call ≡ Finish
  pub finished : (s : Standing) (call : Call) → IsTrue s.finished → has_effect s call ≡ false

-- in a journal of effective calls only Finish comes after Canceled stands, and nothing after Finish
pub record JournalsEnd : Type 0 where
  pub after_cancel :
      (earlier later : List Entry) → HaveEffect new_flags (earlier ++ later)
      → IsTrue (flags_after_all earlier).canceled → All (λ entry. entry.call ≡ Finish) later
  pub after_finish :
      (earlier later : List Entry) → HaveEffect new_flags (earlier ++ later)
      → IsTrue (flags_after_all earlier).finished → later ≡ []

-- no journal sets Throttled, and in one of effective calls Suspending and Suspended never stand together
pub record SuspensionIsOne : Type 0 where
  pub throttled : (journal : List Entry) → (flags_after_all journal).throttled ≡ false
  pub one :
      (journal : List Entry) → HaveEffect new_flags journal → IsTrue (flags_after_all journal).suspending
      → (flags_after_all journal).suspended ≡ false

-- a start keeps a suspension that was set before
abbrev pub StartKeepsSuspension : Type 0
StartKeepsSuspension =
    (s : Standing)
    → ((after s Start Nothing).suspending ≡ s.suspending) × ((after s Start Nothing).suspended ≡ s.suspended)

-- a late watcher is told of just the flags that stand
pub record ReplayNamesStanding : Type 0 where
  pub started : (s : Standing) (ranges : List (ℕ × ℕ)) → Contains (replayed s ranges) Started ↔ IsTrue s.started
  pub suspended : (s : Standing) (ranges : List (ℕ × ℕ)) → Contains (replayed s ranges) Suspended ↔ IsTrue s.suspended
  pub suspending :
      (s : Standing) (ranges : List (ℕ × ℕ))
      → Contains (replayed s ranges) Suspending ↔ (IsTrue s.suspending × (s.suspended ≡ false))
  pub canceled : (s : Standing) (ranges : List (ℕ × ℕ)) → Contains (replayed s ranges) Canceled ↔ IsTrue s.canceled
  pub finished : (s : Standing) (ranges : List (ℕ × ℕ)) → Contains (replayed s ranges) Finished ↔ IsTrue s.finished

-- What follows for whoever has passes of a shared future. (Own.)
use Rattle.std.specs.Prelude.{◌≡◌, ◌||◌, ℕ, Bool, List, Option, IsTrue}
use Rattle.std.specs.List.{list_any}
use Rattle.qtc_events.specs.Flags.{Standing}
use Rattle.qtc_future.specs.Future.{Logged}
use Rattle.qtc_future.specs.Steps.{dropped, step}
use Rattle.qtc_future.specs.declared.requests.Request.TheVariants.{ReportBatch, AddResult, Account}
use Rattle.qtc_shared.specs.Journals.{BeginsWith, flags_at}
use Rattle.qtc_shared.specs.Parts.{future_at}
use Rattle.qtc_shared.specs.Passes.{PassState, IsHold, Meets, Stays}

-- the test holds of the flags of what the pass knows, or of flags that it saw since
abbrev pub has_seen : {V : Type 0} → (Standing → Bool) → PassState V → Bool
has_seen test pass = test (flags_at pass.known) || list_any test pass.seen

abbrev pub is_started : Standing → Bool
is_started flags = flags.started

abbrev pub is_canceled : Standing → Bool
is_canceled flags = flags.canceled

abbrev pub is_finished : Standing → Bool
is_finished flags = flags.finished

abbrev pub is_ended : Standing → Bool
is_ended flags = flags.canceled || flags.finished

-- what a pass has seen to stand stands at every journal that it meets
pub record SeenFlagsStay (V : Type 0) : Type 0 where
  pub started :
      (pass : PassState V) (journal : List (Logged V)) → Meets pass journal
      → IsTrue (has_seen is_started pass) → IsTrue (flags_at journal).started
  pub canceled :
      (pass : PassState V) (journal : List (Logged V)) → Meets pass journal
      → IsTrue (has_seen is_canceled pass) → IsTrue (flags_at journal).canceled
  pub finished :
      (pass : PassState V) (journal : List (Logged V)) → Meets pass journal
      → IsTrue (has_seen is_finished pass) → IsTrue (flags_at journal).finished

-- a pass that saw Canceled or Finished has nothing accepted or counted any more
pub record SeenEndsDropAll (V : Type 0) : Type 0 where
  pub report :
      (pass : PassState V) (journal : List (Logged V)) (begin total : ℕ) (values : List V) → Meets pass journal
      → IsTrue (has_seen is_ended pass)
      → step (future_at pass.of.terms journal) pass.number (ReportBatch begin values total)
      ≡ dropped (future_at pass.of.terms journal)
  pub add :
      (pass : PassState V) (journal : List (Logged V)) (index : Option ℕ) (value : V) → Meets pass journal
      → IsTrue (has_seen is_ended pass)
      → step (future_at pass.of.terms journal) pass.number (AddResult index value)
      ≡ dropped (future_at pass.of.terms journal)
  pub account :
      (pass : PassState V) (journal : List (Logged V)) (total : ℕ) → Meets pass journal
      → IsTrue (has_seen is_ended pass)
      → step (future_at pass.of.terms journal) pass.number (Account total)
      ≡ dropped (future_at pass.of.terms journal)

-- what a pass knows of the journals that it will meet
pub record KnownIsKept (V : Type 0) : Type 0 where
  -- each begins with what it knows,
  pub begins : (pass : PassState V) (journal : List (Logged V)) → Meets pass journal → BeginsWith journal pass.known
  -- and is just that, once it knows that the future is finished
  pub last :
      (pass : PassState V) (journal : List (Logged V)) → Meets pass journal
      → IsTrue (flags_at pass.known).finished → journal ≡ pass.known
  -- after a hold in which nothing was done the pass meets no other journals than before
  pub later :
      (old new : PassState V) (journal : List (Logged V)) → IsHold old new Stays → Meets new journal
      → Meets old journal

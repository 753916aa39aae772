-- What a journal of effective calls tells. (Own.)
use Rattle.std.specs.Prelude.{◌≡◌, ℕ, Bool, true, ◌&&◌, Option, None, Some, List, [], ◌∷◌, ◌++◌, fold, sum_by, map, min, IsTrue, option_to_list}
use Rattle.qtc_events.specs.Flags.{Standing, new_flags}
use Rattle.qtc_events.specs.Calls.{row, has_effect, after_call, acts_as, after, posts_of_acting, most_accounted}
use Rattle.qtc_events.specs.declared.calls.Call.{Call}
use Rattle.qtc_events.specs.declared.calls.Call.TheVariants.{Start, Finish}
use Rattle.qtc_events.specs.declared.entries.Entry.{Entry}
use Rattle.qtc_events.specs.declared.events.Event.{Event}

-- the calls of a journal, in order
abbrev pub calls_in : List Entry → List Call
calls_in journal = map (λ entry. entry.call) journal

-- the calls begin with a start and end with a finish
pub record IsOpenedAndFinished (calls : List Call) : Type 0 where
  pub between : List Call
  pub whole : calls ≡ Start ∷ between ++ Finish ∷ []

-- the flags after one entry more
abbrev pub after_entry : Standing → Entry → Standing
after_entry s entry = after s entry.call entry.reached

-- the flags that a journal leaves
abbrev pub flags_after_all : List Entry → Standing
flags_after_all journal = fold after_entry new_flags journal

-- how many results the journal accounts for; the number stands still at its type's end
abbrev pub accounted : List Entry → ℕ
accounted journal = min (sum_by (λ entry. (row entry.call).counts) journal) most_accounted

-- what a threshold acts as has an effect too
abbrev pub acts_with_effect : Standing → Option Call → Bool
acts_with_effect s None = true
acts_with_effect s (Some call) = has_effect s call

-- an entry's call has an effect where these flags stand, and so has what its threshold acts as
abbrev pub entry_has_effect : Standing → Entry → Bool
entry_has_effect s entry =
    has_effect s entry.call && acts_with_effect (after_call s entry.call) (acts_as entry.reached)

-- each entry has an effect where it stands, the first where these flags do
abbrev pub HaveEffect : Standing → List Entry → Type 0
HaveEffect s [] = Unit {0}
HaveEffect s (entry ∷ journal) = IsTrue (entry_has_effect s entry) × HaveEffect (after_entry s entry) journal

-- what an effective entry posts: its call's own event, and then its threshold's
abbrev pub posts_of_entry : (filter : Bool) → Entry → (old_count new_count : ℕ) → List Event
posts_of_entry filter entry old_count new_count =
    option_to_list ((row entry.call).posts filter old_count new_count)
    ++ option_to_list (posts_of_acting (acts_as entry.reached))

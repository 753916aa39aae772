-- A journal with the events that it posted, and the room that both have. (Own.)
use Rattle.std.specs.Prelude.{ℕ, ◌≡◌, ◌+◌, ◌≤◌, ◌||◌, Bool, if◌then◌else◌, List}
use Rattle.qtc_events.specs.Flags.{Standing, flags_in}
use Rattle.qtc_events.specs.Journal.{accounted, flags_after_all}
use Rattle.qtc_events.specs.declared.entries.Entry.{Entry}
use Rattle.qtc_events.specs.declared.events.Event.{Event}

pub record Booked : Type 0 where
  pub journal : List Entry
  pub events : List Event
  pub entry_room : ℕ
  pub event_room : ℕ

-- what is kept beside the journal is the journal's: the word of its flags, and the results that it accounts for
pub record IsUpToDate (word sum : ℕ) (journal : List Entry) : Type 0 where
  pub flags : flags_in word ≡ flags_after_all journal
  pub accounts : sum ≡ accounted journal

-- one, unless it stands
abbrev pub unless_stands : Bool → ℕ
unless_stands b = if b then 0 else 1

-- how many of start, one of cancel and fail, and finish may still have an effect where these flags stand: for each of
-- them there is room for an entry and an event
abbrev pub owed : Standing → ℕ
owed s =
    unless_stands s.finished + unless_stands (s.canceled || s.finished)
    + unless_stands (s.started || (s.canceled || s.finished))

pub record HasRoom (booked : Booked) : Type 0 where
  pub entries : owed (flags_after_all booked.journal) ≤ booked.entry_room
  pub events : owed (flags_after_all booked.journal) ≤ booked.event_room

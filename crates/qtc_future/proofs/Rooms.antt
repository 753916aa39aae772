-- The room that is owed.
use Rattle.std.proofs.Common.{◌≡◌, ◌+◌, ◌≤◌, List, [], ◌∷◌, ◌++◌, length, ap, sym, ◌∙◌, subst, arith}
use Rattle.qtc_events.specs.Flags.{Standing, new_flags}
use Rattle.qtc_events.specs.Journal.{flags_after_all, after_entry}
use Rattle.qtc_events.specs.declared.entries.Entry.{Entry}
use Rattle.qtc_events.specs.declared.events.Event.{Event}
use Rattle.qtc_future.specs.Booked.{Booked, owed, HasRoom}
use Rattle.qtc_future.proofs.Appending.{fold-push}

pub has_room_after : (old new : Booked) (entry : Entry) (posts : List Event) → new.journal ≡ old.journal ++ entry ∷ [] → owed (after_entry (flags_after_all old.journal) entry) + 1 ≤ old.entry_room → owed (after_entry (flags_after_all old.journal) entry) + length posts ≤ old.event_room → old.entry_room ≤ new.entry_room + 1 → old.event_room ≤ new.event_room + length posts → HasRoom new
has_room_after old new entry posts grown entries events left left_events =
    let flags : flags_after_all new.journal ≡ after_entry (flags_after_all old.journal) entry = ap flags_after_all grown ∙ fold-push after_entry new_flags old.journal entry in
    record {
      entries = subst (λ (s : Standing). owed s ≤ new.entry_room) (sym flags) (omega arith);
      events = subst (λ (s : Standing). owed s ≤ new.event_room) (sym flags) (omega arith);
    }

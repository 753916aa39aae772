use Rattle.std.proofs.Common.{◌≡◌, fold, take}
use Rattle.qtc_events.specs.Flags.{new_flags, flags_in}
use Rattle.qtc_events.specs.Journal.{after_entry}
use Rattle.qtc_events.proofs.journals.flags_of.Given as goal

abbrev pub invariant-loop-entry : goal.invariant-loop-entry
invariant-loop-entry l = flags_in l.flags.bits ≡ fold after_entry new_flags (take l.entry-index l.journal)

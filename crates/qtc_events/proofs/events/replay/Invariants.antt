use Rattle.std.proofs.Common.{◌≡◌, ◌++◌, map, take}
use Rattle.qtc_events.specs.Flags.{flags_in}
use Rattle.qtc_events.specs.Replay.{told_where, ranges_told}
use Rattle.qtc_base.specs.Ranges.{bounds_of}
use Rattle.qtc_events.specs.declared.events.Event.TheVariants.{Started}
use Rattle.qtc_events.proofs.events.replay.Given as goal

abbrev pub invariant-loop-range : goal.invariant-loop-range
invariant-loop-range l =
    l.events ≡ told_where (flags_in l.flags.bits).started Started ++ ranges_told (map bounds_of (take l.range-index l.ready))

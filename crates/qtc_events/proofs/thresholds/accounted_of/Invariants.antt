use Rattle.std.proofs.Common.{◌≡◌, take}
use Rattle.qtc_events.specs.Journal.{accounted}
use Rattle.qtc_events.proofs.thresholds.accounted_of.Given as goal

abbrev pub invariant-loop-entry : goal.invariant-loop-entry
invariant-loop-entry l = l.sum ≡ accounted (take l.entry-index l.journal)

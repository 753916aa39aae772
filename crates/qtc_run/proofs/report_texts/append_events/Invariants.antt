use Rattle.std.proofs.Common.{◌≡◌, ◌++◌, drop}
use Rattle.std.specs.List.{flat_map}
use Rattle.qtc_events.specs.Text.{event_line}
use Rattle.qtc_run.proofs.report_texts.append_events.Given as goal

abbrev pub invariant-loop-event : goal.invariant-loop-event
invariant-loop-event l = l.fn.into ++ flat_map event_line l.events ≡ l.into ++ flat_map event_line (drop l.event-index l.events)

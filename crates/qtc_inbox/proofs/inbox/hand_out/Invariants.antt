use Rattle.std.proofs.Common.{◌≡◌, ◌+◌, ◌-◌, ◌≤◌, ◌++◌, length, vec_capacity}
use Rattle.qtc_inbox.specs.Inboxes.{inbox_passes, less_parts}
use Rattle.qtc_inbox.specs.Rule.{one_part}
use Rattle.qtc_inbox.proofs.inbox.hand_out.Given as goal

-- the passes so far, and those of what is left, are those of all
abbrev pub invariant-loop-made : goal.invariant-loop-made
invariant-loop-made g l = record {
  line : l.place.line ≡ l.line.table;
  few : length l.passes.items ≤ length l.fn.passes.items;
  has : l.place.has ≡ less_parts (length l.fn.passes.items - length l.passes.items) l.fn.place.has;
  all : l.made.items ++ inbox_passes l.line.table (one_part l.fn.place.has) l.passes.items ≡ inbox_passes l.line.table (one_part l.fn.place.has) l.fn.passes.items;
  room : length l.made.items + length l.passes.items ≤ vec_capacity l.made;
}

abbrev pub decreases-loop-made : goal.decreases-loop-made
decreases-loop-made g l = length l.passes.items

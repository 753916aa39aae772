use Rattle.std.proofs.Common.{◌≡◌, ◌≤◌, ◌-◌, length, take}
use Rattle.qtc_base.specs.Escape.{escaped}
use Rattle.qtc_base.proofs.escaping.plain_blocks.Given as goal

abbrev pub invariant-loop-len : goal.invariant-loop-len
invariant-loop-len l =
    record {
      within : l.len ≤ length l.raw;
      plain : escaped (take l.len l.raw) ≡ take l.len l.raw;
    }

abbrev pub decreases-loop-len : goal.decreases-loop-len
decreases-loop-len l = length l.raw - l.len

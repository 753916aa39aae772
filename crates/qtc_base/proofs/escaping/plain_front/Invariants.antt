use Rattle.std.proofs.Common.{◌≡◌, take}
use Rattle.qtc_base.specs.Escape.{escaped}
use Rattle.qtc_base.proofs.escaping.plain_front.Given as goal

abbrev pub invariant-loop-place : goal.invariant-loop-place
invariant-loop-place l = escaped (take l.place l.raw) ≡ take l.place l.raw

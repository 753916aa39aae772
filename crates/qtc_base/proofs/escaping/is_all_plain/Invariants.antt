use Rattle.std.proofs.Common.{◌≡◌, take, true}
use Rattle.qtc_base.specs.Escape.{escaped}
use Rattle.qtc_base.proofs.escaping.is_all_plain.Given as goal

abbrev pub invariant-loop-byte : goal.invariant-loop-byte
invariant-loop-byte l = l.plain ≡ true → escaped (take l.byte-index l.block) ≡ take l.byte-index l.block

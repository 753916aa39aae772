use Rattle.std.proofs.Common.{◌≡◌, ◌++◌, length, take}
use Rattle.qtc_base.specs.Escape.{escaped}
use Rattle.qtc_base.proofs.escaping.append_escaped.Given as goal

abbrev pub invariant-loop-rest : goal.invariant-loop-rest
invariant-loop-rest l =
    record {
      told : l.into ++ escaped l.rest ≡ l.fn.into ++ escaped l.raw;
      kept : take (length l.fn.into) l.into ≡ l.fn.into;
    }

abbrev pub decreases-loop-rest : goal.decreases-loop-rest
decreases-loop-rest l = length l.rest

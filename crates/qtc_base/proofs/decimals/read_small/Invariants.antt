use Rattle.std.proofs.Common.{◌≡◌, ◌<◌, ◌^◌, ℕ, take, get_or}
use Rattle.qtc_base.specs.Decimal.{number_of, IsDigit}
use Rattle.qtc_base.proofs.decimals.read_small.Given as goal

abbrev pub invariant-loop-byte : goal.invariant-loop-byte
invariant-loop-byte l =
    record {
      digits : (k : ℕ) → k < l.byte-index → IsDigit (get_or l.word k 0);
      value : l.value ≡ number_of (take l.byte-index l.word);
      bound : l.value < 10 ^ l.byte-index;
    }

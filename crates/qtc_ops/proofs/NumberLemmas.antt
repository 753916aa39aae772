-- The test of numbers against what they are.
use Rattle.std.proofs.Common.{ℕ, List, length, Decides}
use Rattle.std.proofs.lemmas.Bool.{and_parts, and_from, leb-true, le-leb}
use Rattle.qtc_base.specs.Decimal.{IsNumber}
use Rattle.qtc_base.proofs.SharedLemmas.{digits-decide}
use Rattle.qtc_ops.specs.Numbers.{is_number}
use Rattle.qtc_base.specs.Limits.{most_number_digits}

pub is_number-decides : (item : List ℕ) → Decides (is_number item) (IsNumber most_number_digits item)
is_number-decides item = (
  λ h.
      let parts = and_parts _ _ h in
      let more = and_parts _ _ parts.1 in
      record {
        some = leb-true 1 (length item) parts.0;
        few = leb-true (length item) most_number_digits more.0;
        digits = (digits-decide item).0 more.1;
      },
  λ n. and_from _ _ (le-leb 1 (length item) n.some) (and_from _ _ (le-leb (length item) most_number_digits n.few) ((digits-decide item).1 n.digits)),
)

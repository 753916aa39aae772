use Rattle.std.proofs.Common.{◌≤◌, refl, arith}
use Rattle.std.proofs.lemmas.Grind.{common_steps}
use Rattle.std.proofs.lemmas.List.Elements.{All-from_get_or}
use Rattle.qtc_base.specs.Decimal.{IsDigit}
use Rattle.qtc_base.proofs.DecimalLemmas.{ten_more}
use Rattle.qtc_base.proofs.decimals.read_small.Goals as goal

pub overflow_mul-value : goal.overflow_mul-value
overflow_mul-value c =
    let room = ten_more c.loop-byte.value 9 c.loop-byte.byte-index 19 64 (omega arith) c.loop-byte.invariant.bound (omega arith) (omega arith) in
    omega arith

pub overflow_add-value : goal.overflow_add-value
overflow_add-value c =
    let digit : c.from.result ≤ 9 = grind (arith, common_steps) in
    let room = ten_more c.loop-byte.value c.from.result c.loop-byte.byte-index 19 64 (omega arith) c.loop-byte.invariant.bound (omega arith) digit in
    omega arith

pub returns-clause-digits : goal.returns-clause-digits
returns-clause-digits c = (
  λ _. All-from_get_or IsDigit _ 0 (λ k h. c.loop-byte.invariant.digits k (omega arith)),
  λ _. refl,
)

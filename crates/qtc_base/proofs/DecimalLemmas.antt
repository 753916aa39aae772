-- Bounds on the numbers that digits spell.
use Rattle.std.proofs.Common.{ℕ, ◌+◌, ◌*◌, ◌^◌, ◌<◌, ◌≤◌, arith}
use Rattle.std.proofs.lemmas.Grind.{pow_more}
use Rattle.std.proofs.Math.Nat.{pow-le-pow_right}

-- one more digit after fewer than `most` fits so many bits
pub ten_more : (value digit count most bits : ℕ) → 10 ^ most ≤ 2 ^ bits → value < 10 ^ count → count < most → digit ≤ 9 → 10 * value + digit < 2 ^ bits
ten_more value digit count most bits fit bound few small =
    let more = pow_more 10 count in
    let top = pow-le-pow_right {n = 10} (omega arith) {i = count + 1} {j = most} (omega arith) in
    omega (arith, more, top, fit)

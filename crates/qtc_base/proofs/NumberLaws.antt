-- What each digit of a number counts.
use Rattle.std.proofs.Common.{◌≡◌, ℕ, zero, suc, ◌+◌, ◌-◌, ◌*◌, ◌^◌, List, [], ◌∷◌, ◌++◌, length, refl, ap, sym, ◌∙◌, arith}
use Rattle.std.proofs.Math.Nat.{add-mul, mul_assoc, mul_comm, pow-succ'}
use Rattle.std.specs.Prelude.{fold, replicate}
use Rattle.qtc_base.specs.Decimal.{number_of}
use Rattle.qtc_base.specs.Laws.{DigitsCountByPlace}

abbrev number_from : ℕ → List ℕ → ℕ
number_from n word = fold (λ m digit. 10 * m + (digit - 48)) n word

-- one digit more moves a number by one place
by_place : (m d p v : ℕ) → (10 * m + d) * p + v ≡ m * (10 * p) + (d * p + v)
by_place m d p v =
    let parted : (10 * m + d) * p ≡ 10 * m * p + d * p = add-mul (10 * m) d p in
    let first : 10 * m * p ≡ 10 * (m * p) = mul_assoc 10 m p in
    let swapped : m * (10 * p) ≡ m * 10 * p = sym (mul_assoc m 10 p) in
    let turned : m * 10 * p ≡ 10 * m * p = ap (λ k. k * p) (mul_comm m 10) in
    omega (arith, parted, first, swapped, turned)

number-from : (m : ℕ) (word : List ℕ) → number_from m word ≡ m * 10 ^ length word + number_of word
number-from m [] = omega arith
number-from m (digit ∷ word) =
    let here = number-from (10 * m + (digit - 48)) word in
    let first = number-from (0 + (digit - 48)) word in
    let power : 10 ^ suc (length word) ≡ 10 * 10 ^ length word = pow-succ' 10 (length word) in
    let alone : 0 + (digit - 48) ≡ digit - 48 = omega arith in
    let rest = first ∙ ap (λ d. d * 10 ^ length word + number_of word) alone in
    here ∙ (by_place m (digit - 48) (10 ^ length word) (number_of word) ∙ rw power (ap (λ v. m * (10 * 10 ^ length word) + v) (sym rest)))

number-first : (digit : ℕ) (word : List ℕ) → number_of (digit ∷ word) ≡ (digit - 48) * 10 ^ length word + number_of word
number-first digit word =
    let alone : 0 + (digit - 48) ≡ digit - 48 = omega arith in
    number-from (0 + (digit - 48)) word ∙ ap (λ d. d * 10 ^ length word + number_of word) alone

number-zeros : (count : ℕ) (word : List ℕ) → number_of (replicate count 48 ++ word) ≡ number_of word
number-zeros zero word = refl
number-zeros (suc count) word = number-zeros count word

pub digits-count : DigitsCountByPlace
digits-count = record { none = refl; first = number-first; zeros = number-zeros }

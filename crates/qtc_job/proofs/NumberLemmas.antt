-- Numbers and priorities as they are written, and as they are read.
use Rattle.std.proofs.Common.{◌≡◌, ℕ, zero, suc, ◌-◌, ◌*◌, ◌^◌, ◌<◌, ◌≤◌, true, false, List, [], ◌∷◌, length, get_or, drop, ap, ⊎_elim, arith}
use Rattle.std.specs.Prelude.{ℤ, pos, negsuc, neg_ℤ}
use Rattle.std.specs.List.{All}
use Rattle.std.proofs.Math.Nat.{pow-succ', pow-le-pow_right}
use Rattle.std.proofs.lemmas.Bool.{cases_Bool, ne_eqb, le-leb, leb-true, and_parts, and_from}
use Rattle.std.proofs.lemmas.Fmt.{length-decimal-le_wide}
use Rattle.std.proofs.lemmas.List.Elements.{All-cons, All-head, All-tail, All-weaker}
use Rattle.std.proofs.lemmas.Int.{ints}
use Rattle.qtc_base.specs.Decimal.{decimal_text, IsDigit, IsNumber, number_of}
use Rattle.qtc_base.proofs.DecimalLaws.{decimal-spells}
use Rattle.qtc_base.proofs.NumberLaws.{digits-count}
use Rattle.qtc_job_file.specs.Canonical.{priority_text}
use Rattle.qtc_job_file.specs.Lawful.{IsPriority}
use Rattle.qtc_job.specs.Literals.{is_numeral, is_within, is_negative, unsigned, is_priority, priority_of}
use Rattle.qtc_job.proofs.LiteralLemmas.{numeral-decides}

-- ---- numbers

decimal-is : (n : ℕ) → n < 10000000000 → IsNumber 10 (decimal_text n)
decimal-is n small = (decimal-spells 10 n (omega arith) (omega arith) small).digits

pub number-read : (n : ℕ) → n < 10000000000 → number_of (decimal_text n) ≡ n
number-read n small = (decimal-spells 10 n (omega arith) (omega arith) small).value

pub number-numeral : (n : ℕ) → n < 10000000000 → is_numeral (decimal_text n) ≡ true
number-numeral n small = (numeral-decides (decimal_text n)).1 (decimal-is n small)

pub number-solid : (n : ℕ) → n < 10000000000 → (1 ≤ length (decimal_text n)) × All (λ byte. 32 < byte) (decimal_text n)
number-solid n small =
    let is = decimal-is n small in
    (is.some, All-weaker IsDigit (λ byte. 32 < byte) (λ byte digit. let low = digit.0 in omega arith) (decimal_text n) is.digits)

pub number-within : (least most n : ℕ) → n < 10000000000 → least ≤ n → n ≤ most → is_within least most (decimal_text n) ≡ true
number-within least most n small low high =
    let read = number-read n small in
    and_from _ _ (le-leb least (number_of (decimal_text n)) (omega arith)) (le-leb (number_of (decimal_text n)) most (omega arith))

pub within-is : (least most : ℕ) (word : List ℕ) → is_within least most word ≡ true → (least ≤ number_of word) × (number_of word ≤ most)
within-is least most word e =
    let parts = and_parts _ _ e in
    (leb-true least (number_of word) parts.0, leb-true (number_of word) most parts.1)

nine : (digit power : ℕ) → digit ≤ 9 → digit * power ≤ 9 * power
nine digit power small = grind arith

-- so many digits spell a number below so many tens
number-below : (word : List ℕ) → All IsDigit word → number_of word < 10 ^ length word
number-below [] digits = omega arith
number-below (digit ∷ word) digits =
    let here = All-head IsDigit digit word digits in
    let low = here.0 in
    let high = here.1 in
    let there = number-below word (All-tail IsDigit digit word digits) in
    let first = digits-count.first digit word in
    let power : 10 ^ suc (length word) ≡ 10 * 10 ^ length word = pow-succ' 10 (length word) in
    let most = nine (digit - 48) (10 ^ length word) (omega arith) in
    omega (arith, power, first, most)

-- a number has no more digits than it was spelled with
pub number-short : (word : List ℕ) → is_numeral word ≡ true → length (decimal_text (number_of word)) ≤ length word
number-short word numeral =
    let is = (numeral-decides word).0 numeral in
    let some = is.some in
    let few = is.few in
    let below = number-below word is.digits in
    let wide = pow-le-pow_right {n = 10} (omega arith) {i = length word} {j = 64} (omega arith) in
    length-decimal-le_wide (length word) (number_of word) some below (omega (arith, wide, below))

pub number-size : (digits n : ℕ) → 1 ≤ digits → digits ≤ 64 → n < 10 ^ digits → length (decimal_text n) ≤ digits
number-size digits n some few small = (decimal-spells digits n some few small).digits.few

-- ---- priorities

no-sign : (word : List ℕ) → IsNumber 10 word → is_negative word ≡ false
no-sign word is =
    let some = is.some in
    let first = is.digits 0 0 some in
    let low = first.0 in
    ne_eqb (get_or word 0 0) 45 (λ e. omega arith)

pub record IsPriorityWord (priority : ℤ) (word : List ℕ) : Type 0 where
  pub numeral : is_numeral (unsigned word) ≡ true
  pub within : is_priority word ≡ true
  pub read : priority_of word ≡ priority

pub priority-read : (priority : ℤ) → IsPriority priority → IsPriorityWord priority (priority_text priority)
priority-read (pos n) is =
    let most = is.most in
    let small : n ≤ 2147483647 = omega (arith, ints) in
    let no = no-sign (decimal_text n) (decimal-is n (omega arith)) in
    let read = number-read n (omega arith) in
    record {
      numeral = rw no (number-numeral n (omega arith));
      within = rw no (le-leb (number_of (decimal_text n)) 2147483647 (omega arith));
      read = rw no (ap pos read);
    }
priority-read (negsuc n) is =
    let least = is.least in
    let small : suc n ≤ 2147483648 = omega (arith, ints) in
    let read = number-read (suc n) (omega arith) in
    record {
      numeral = number-numeral (suc n) (omega arith);
      within = le-leb (number_of (decimal_text (suc n))) 2147483648 (omega arith);
      read = ap (λ m. neg_ℤ (pos m)) read;
    }

signed-is : (m : ℕ) → m ≤ 2147483648 → IsPriority (neg_ℤ (pos m))
signed-is zero small = record { least = omega (arith, ints); most = omega (arith, ints) }
signed-is (suc m) small = record { least = omega (arith, ints); most = omega (arith, ints) }

unsigned-is : (m : ℕ) → m ≤ 2147483647 → IsPriority (pos m)
unsigned-is m small = record { least = omega (arith, ints); most = omega (arith, ints) }

pub priority-is : (word : List ℕ) → is_priority word ≡ true → IsPriority (priority_of word)
priority-is word e = ⊎_elim
    (λ (negative : is_negative word ≡ true). rw negative (let f = rw negative at e in signed-is (number_of (drop 1 word)) (leb-true (number_of (drop 1 word)) 2147483648 f)))
    (λ (other : is_negative word ≡ false). rw other (let f = rw other at e in unsigned-is (number_of word) (leb-true (number_of word) 2147483647 f)))
    (cases_Bool (is_negative word))

pub priority-size : (priority : ℤ) → IsPriority priority → length (priority_text priority) ≤ 11
priority-size (pos n) is =
    let most = is.most in
    let small : n < 10000000000 = omega (arith, ints) in
    let size = number-size 10 n (omega arith) (omega arith) small in
    omega arith
priority-size (negsuc n) is =
    let least = is.least in
    let small : suc n < 10000000000 = omega (arith, ints) in
    let size = number-size 10 (suc n) (omega arith) (omega arith) small in
    omega arith

pub priority-solid : (priority : ℤ) → IsPriority priority → (1 ≤ length (priority_text priority)) × All (λ byte. 32 < byte) (priority_text priority)
priority-solid (pos n) is =
    let most = is.most in
    let small : n < 10000000000 = omega (arith, ints) in
    number-solid n small
priority-solid (negsuc n) is =
    let least = is.least in
    let small : suc n < 10000000000 = omega (arith, ints) in
    (omega arith, All-cons (λ byte. 32 < byte) 45 (decimal_text (suc n)) (omega arith) (number-solid (suc n) small).1)

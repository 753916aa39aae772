-- The bits of a flag word.
use Rattle.std.proofs.Common.{◌≡◌, ℕ, zero, suc, ◌+◌, ◌-◌, ◌*◌, ◌^◌, ◌<◌, Bool, true, false, not, cond, min, max, nat_eq, refl, ap, sym, ◌∙◌, arith}
use Rattle.std.specs.Int.{bit_at, bit_not, w32}
use Rattle.std.specs.Int.RustNames.{bit_or}
use lib.Bits.{bit_and}
use Rattle.std.proofs.Math.Nat.{zero-mul, one-mul}
use Rattle.std.proofs.lemmas.Nat.Bits.{and_pow, bit_at-lt, bit_at_or, bit_at_and, bit_at_not}
use Rattle.std.proofs.lemmas.Bool.{ne_eqb}
use Rattle.qtc_events.specs.Flags.{Standing, has_bit, flags_in, word_of, weighed, turned, changed}

-- the code's test of one bit
bit_stands : (x weight : ℕ) → x < 2 → 0 < weight → not (nat_eq (x * weight) 0) ≡ nat_eq x 1
bit_stands zero weight small some = rw zero-mul refl
bit_stands (suc zero) weight small some = rw one-mul (rw (ne_eqb weight 0 (λ e. absurd (omega arith))) refl)
bit_stands (suc (suc x)) weight small some = absurd (omega arith)

pub test_of_bit : (word place : ℕ) → 0 < 2 ^ place → not (nat_eq (bit_and word (2 ^ place)) 0) ≡ has_bit word place
test_of_bit word place some = rw and_pow (bit_stands (bit_at word place) (2 ^ place) (bit_at-lt word place) some)

turned_bits : (x y z : ℕ) → x < 2 → y < 2 → z < 2 → nat_eq (max (min x (1 - y)) z) 1 ≡ turned (nat_eq x 1) (nat_eq y 1) (nat_eq z 1)
turned_bits zero zero zero a b c = refl
turned_bits zero zero (suc zero) a b c = refl
turned_bits zero (suc zero) zero a b c = refl
turned_bits zero (suc zero) (suc zero) a b c = refl
turned_bits (suc zero) zero zero a b c = refl
turned_bits (suc zero) zero (suc zero) a b c = refl
turned_bits (suc zero) (suc zero) zero a b c = refl
turned_bits (suc zero) (suc zero) (suc zero) a b c = refl
turned_bits (suc (suc x)) y z a b c = absurd (omega arith)
turned_bits x (suc (suc y)) z a b c = absurd (omega arith)
turned_bits x y (suc (suc z)) a b c = absurd (omega arith)

bit_changed : (word clears sets place : ℕ) → clears < 2 ^ 32 → place < 32 → has_bit (bit_or (bit_and word (bit_not w32 clears)) sets) place ≡ turned (has_bit word place) (has_bit clears place) (has_bit sets place)
bit_changed word clears sets place small within =
    rw (bit_at_or, bit_at_and, bit_at_not w32 clears place small within) (turned_bits _ _ _ (bit_at-lt word place) (bit_at-lt clears place) (bit_at-lt sets place))

pub flags_changed : (word clears sets : ℕ) → clears < 2 ^ 32 → flags_in (bit_or (bit_and word (4294967295 - clears)) sets) ≡ changed (flags_in word) (flags_in clears) (flags_in sets)
flags_changed word clears sets small = λ i. record {
  running = bit_changed word clears sets 0 small (omega arith) i;
  started = bit_changed word clears sets 1 small (omega arith) i;
  finished = bit_changed word clears sets 2 small (omega arith) i;
  canceled = bit_changed word clears sets 3 small (omega arith) i;
  suspending = bit_changed word clears sets 4 small (omega arith) i;
  suspended = bit_changed word clears sets 5 small (omega arith) i;
  throttled = bit_changed word clears sets 6 small (omega arith) i;
  pending = bit_changed word clears sets 7 small (omega arith) i;
}

-- ---- words and flags
digit : Bool → ℕ
digit b = cond b 1 0

digit-lt : (b : Bool) → digit b < 2
unfolding digit
digit-lt true = omega arith
digit-lt false = omega arith

weighed_digit : (b : Bool) (weight : ℕ) → weighed b weight ≡ digit b * weight
unfolding digit
weighed_digit true weight = sym (one-mul weight)
weighed_digit false weight = sym (zero-mul weight)

digit_shown : (b : Bool) → nat_eq (digit b) 1 ≡ b
unfolding digit
digit_shown true = refl
digit_shown false = refl

digit_made : (x : ℕ) → x < 2 → digit (nat_eq x 1) ≡ x
unfolding digit
digit_made zero small = refl
digit_made (suc zero) small = refl
digit_made (suc (suc x)) small = absurd (omega arith)

-- the number of eight digits
number : (a b c d e f g h : ℕ) → ℕ
number a b c d e f g h = a * 1 + b * 2 + c * 4 + d * 8 + e * 16 + f * 32 + g * 64 + h * 128

word_number : (s : Standing) → word_of s ≡ number (digit s.running) (digit s.started) (digit s.finished) (digit s.canceled) (digit s.suspending) (digit s.suspended) (digit s.throttled) (digit s.pending)
unfolding number
word_number s =
    rw (weighed_digit s.running 1, weighed_digit s.started 2, weighed_digit s.finished 4, weighed_digit s.canceled 8, weighed_digit s.suspending 16, weighed_digit s.suspended 32, weighed_digit s.throttled 64, weighed_digit s.pending 128) refl

pub word_of-lt : (s : Standing) → word_of s < 256
unfolding number
word_of-lt s =
    omega (arith, word_number s, digit-lt s.running, digit-lt s.started, digit-lt s.finished, digit-lt s.canceled, digit-lt s.suspending, digit-lt s.suspended, digit-lt s.throttled, digit-lt s.pending)

-- eight digits
record AreDigits (a b c d e f g h : ℕ) : Type 0 where
  a-lt : a < 2
  b-lt : b < 2
  c-lt : c < 2
  d-lt : d < 2
  e-lt : e < 2
  f-lt : f < 2
  g-lt : g < 2
  h-lt : h < 2

module _ (a b c d e f g h : ℕ) (small : AreDigits a b c d e f g h) where
  digit_0 : bit_at (number a b c d e f g h) 0 ≡ a
  unfolding number
  digit_0 = omega arith

  digit_1 : bit_at (number a b c d e f g h) 1 ≡ b
  unfolding number
  digit_1 = omega arith

  digit_2 : bit_at (number a b c d e f g h) 2 ≡ c
  unfolding number
  digit_2 = omega arith

  digit_3 : bit_at (number a b c d e f g h) 3 ≡ d
  unfolding number
  digit_3 = omega arith

  digit_4 : bit_at (number a b c d e f g h) 4 ≡ e
  unfolding number
  digit_4 = omega arith

  digit_5 : bit_at (number a b c d e f g h) 5 ≡ f
  unfolding number
  digit_5 = omega arith

  digit_6 : bit_at (number a b c d e f g h) 6 ≡ g
  unfolding number
  digit_6 = omega arith

  digit_7 : bit_at (number a b c d e f g h) 7 ≡ h
  unfolding number
  digit_7 = omega arith

digits_small : (s : Standing) → AreDigits (digit s.running) (digit s.started) (digit s.finished) (digit s.canceled) (digit s.suspending) (digit s.suspended) (digit s.throttled) (digit s.pending)
digits_small s = record {
  a-lt = digit-lt s.running;
  b-lt = digit-lt s.started;
  c-lt = digit-lt s.finished;
  d-lt = digit-lt s.canceled;
  e-lt = digit-lt s.suspending;
  f-lt = digit-lt s.suspended;
  g-lt = digit-lt s.throttled;
  h-lt = digit-lt s.pending;
}

shown_at : (s : Standing) (place : ℕ) (b : Bool) → bit_at (word_of s) place ≡ digit b → has_bit (word_of s) place ≡ b
shown_at s place b e = ap (λ x. nat_eq x 1) e ∙ digit_shown b

pub flags_in-word_of : (s : Standing) → flags_in (word_of s) ≡ s
flags_in-word_of s =
    let w = word_number s in
    let at = λ (place : ℕ). ap (λ n. bit_at n place) w in
    let small = digits_small s in
    λ i. record {
      running = shown_at s 0 s.running (at 0 ∙ digit_0 _ _ _ _ _ _ _ _ small) i;
      started = shown_at s 1 s.started (at 1 ∙ digit_1 _ _ _ _ _ _ _ _ small) i;
      finished = shown_at s 2 s.finished (at 2 ∙ digit_2 _ _ _ _ _ _ _ _ small) i;
      canceled = shown_at s 3 s.canceled (at 3 ∙ digit_3 _ _ _ _ _ _ _ _ small) i;
      suspending = shown_at s 4 s.suspending (at 4 ∙ digit_4 _ _ _ _ _ _ _ _ small) i;
      suspended = shown_at s 5 s.suspended (at 5 ∙ digit_5 _ _ _ _ _ _ _ _ small) i;
      throttled = shown_at s 6 s.throttled (at 6 ∙ digit_6 _ _ _ _ _ _ _ _ small) i;
      pending = shown_at s 7 s.pending (at 7 ∙ digit_7 _ _ _ _ _ _ _ _ small) i;
    }

weighed_bit : (word place : ℕ) → digit (has_bit word place) ≡ bit_at word place
weighed_bit word place = digit_made (bit_at word place) (bit_at-lt word place)

number_of_word : (word : ℕ) → word < 256 → number (bit_at word 0) (bit_at word 1) (bit_at word 2) (bit_at word 3) (bit_at word 4) (bit_at word 5) (bit_at word 6) (bit_at word 7) ≡ word
unfolding number
number_of_word word small = omega arith

pub word_of-flags_in : (word : ℕ) → word < 256 → word_of (flags_in word) ≡ word
word_of-flags_in word small =
    word_number (flags_in word) ∙ rw (weighed_bit word 0, weighed_bit word 1, weighed_bit word 2, weighed_bit word 3, weighed_bit word 4, weighed_bit word 5, weighed_bit word 6, weighed_bit word 7) (number_of_word word small)

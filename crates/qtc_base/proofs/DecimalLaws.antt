-- Decimal text spells its number.
use Rattle.std.proofs.Common.{◌≡◌, ◌≢◌, ℕ, ◌+◌, ◌-◌, ◌*◌, ◌^◌, ◌/◌, ◌%◌, ◌<◌, ◌≤◌, List, [], ◌∷◌, ◌++◌, length, get_or, refl, ◌∙◌, arith}
use Rattle.std.specs.Prelude.{All}
use Rattle.std.proofs.Math.Nat.{pow-le-pow_right}
use Rattle.std.proofs.lemmas.Grind.{common_steps, fold-append}
use Rattle.std.proofs.lemmas.Fmt.{decimal_by_steps_wide, length-decimal-le_wide}
use Rattle.std.proofs.lemmas.List.Elements.{All-nil, All-cons, All-push}
use Rattle.qtc_base.specs.Decimal.{decimal_text, IsDigit, number_of}
use Rattle.qtc_base.specs.Laws.{Spells}

-- as much of the law as holds of each step of writing
record IsWritten (n : ℕ) (word : List ℕ) : Type 0 where
  some : 1 ≤ length word
  digits : All IsDigit word
  value : number_of word ≡ n
  alone : n < 10 → length word ≡ 1
  first : 1 ≤ n → get_or word 0 0 ≢ 48

written-one : (n : ℕ) → n < 10 → IsWritten n ((48 + n) ∷ [])
written-one n small = record {
  some = omega arith;
  digits = All-cons IsDigit (48 + n) [] (omega arith, omega arith) (All-nil IsDigit);
  value = omega arith;
  alone = λ _. refl;
  first = λ some e. omega arith;
}

number-push : (word : List ℕ) (digit : ℕ) → number_of (word ++ digit ∷ []) ≡ 10 * number_of word + (digit - 48)
number-push word digit = fold-append (λ n d. 10 * n + (d - 48)) 0 word (digit ∷ [])

first-push : (word : List ℕ) (digit : ℕ) → 1 ≤ length word → get_or (word ++ digit ∷ []) 0 0 ≡ get_or word 0 0
first-push [] digit some = absurd (omega arith)
first-push (d ∷ word) digit some = refl

written-more : (n : ℕ) (word : List ℕ) → 10 ≤ n → IsWritten (n / 10) word → IsWritten n (word ++ ((48 + n % 10) ∷ []))
written-more n word large w =
    let some = w.some in
    let value = w.value in
    record {
      some = grind (arith, common_steps);
      digits = All-push IsDigit word (48 + n % 10) w.digits (omega arith, omega arith);
      value = number-push word (48 + n % 10) ∙ omega arith;
      alone = λ small. absurd (omega arith);
      first = λ _. rw (first-push word (48 + n % 10) some) (w.first (omega arith));
    }

pub decimal-spells : (most n : ℕ) → 1 ≤ most → most ≤ 64 → n < 10 ^ most → Spells most n (decimal_text n)
decimal-spells most n low high small =
    let wide = pow-le-pow_right {n = 10} (omega arith) {i = most} {j = 64} high in
    let fits : n < 10 ^ 64 = omega (arith, wide) in
    let w = decimal_by_steps_wide IsWritten written-one written-more n fits in
    record {
      digits = record { some = w.some; few = length-decimal-le_wide most n low small fits; digits = w.digits };
      value = w.value;
      shortest = λ more.
          let large : 10 ≤ n = grind (arith, w.alone) in
          w.first (omega arith);
    }

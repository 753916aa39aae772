-- Sizes that are taken in turn.
use Rattle.std.proofs.Common.{◌≡◌, ℕ, ◌+◌, ◌*◌, ◌/◌, ◌%◌, ◌<◌, nat_lt, cond, inl, inr, ap, sym, ◌∙◌, arith, true, false}
use Rattle.std.proofs.lemmas.Bool.{cases_lt}
use Rattle.std.proofs.lemmas.Bool.Decides.{nat_tests}
use Rattle.std.proofs.lemmas.Nat.{div-add-mod', mod-mul-add}

next_within : (count len q r : ℕ) → q * len + r ≡ count → r + 1 < len → (count + 1) % len ≡ r + 1
next_within count len q r e less = let same : count + 1 ≡ q * len + (r + 1) = omega arith in ap (λ n. n % len) same ∙ mod-mul-add q len (r + 1) less

next_around : (count len q r : ℕ) → 0 < len → q * len + r ≡ count → r + 1 ≡ len → (count + 1) % len ≡ 0
next_around count len q r some e last =
    let same : count + 1 ≡ (q + 1) * len + 0 = omega arith in ap (λ n. n % len) same ∙ mod-mul-add (q + 1) len 0 some

-- the place after one, in a list of so many
pub next_turn : (count len turn : ℕ) → turn < len → turn ≡ count % len → cond (nat_lt (turn + 1) len) (turn + 1) 0 ≡ (count + 1) % len
next_turn count len turn within e =
    let q = count / len in
    let whole : q * len + turn ≡ count = ap (λ r. q * len + r) e ∙ div-add-mod' count len in
    elim (cases_lt (turn + 1) len) [
      | inl less ↦ let is : nat_lt (turn + 1) len ≡ true = grind (arith, nat_tests) in rw is (sym (next_within count len q turn whole less))
      | inr last ↦ let is : nat_lt (turn + 1) len ≡ false = grind (arith, nat_tests) in rw is (sym (next_around count len q turn (omega arith) whole (omega arith)))
    ]

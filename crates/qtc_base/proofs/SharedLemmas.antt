-- Lemmas that several crates share: on the tests of two facts, on digits, and on a byte before a first line.
use Rattle.std.proofs.Common.{◌≡◌, ℕ, ◌+◌, ◌≤◌, Bool, true, false, not, ◌&&◌, ◌||◌, List, [], ◌∷◌, length, Decides, refl, sym, ◌∙◌, arith}
use Rattle.std.specs.Str.{all_ascii_digits}
use Rattle.std.specs.List.{All, onto_first}
use Rattle.std.specs.Char.{is_ascii_digit}
use Rattle.std.proofs.lemmas.Bool.{and_parts, and_from, leb-true, le-leb, true≢false}
use Rattle.std.proofs.lemmas.Bool.Decides.{Decides-by_and}
use Rattle.std.proofs.lemmas.List.Sums.{sum_by-cons}
use Rattle.qtc_base.specs.Decimal.{IsDigit}
use Rattle.qtc_base.specs.Items.{total_bytes}

-- ---- the tests of two facts

pub left-false : (a b : Bool) → (a || b) ≡ false → a ≡ false
left-false a b e = grind arith

pub right-false : (a b : Bool) → (a || b) ≡ false → b ≡ false
right-false a b e = grind arith

pub left-true : (a b : Bool) → (a || b) ≡ true → b ≡ false → a ≡ true
left-true true b e away = refl
left-true false b e away = absurd (true≢false (sym e ∙ away))

pub or-swap : (a b c : Bool) → (a || (b || c)) ≡ (b || (a || c))
or-swap a b c = grind arith

pub or-group : (a b c : Bool) → (a || (b || c)) ≡ ((a || b) || c)
or-group a b c = grind arith

pub or-turn : (a b c : Bool) → (a || (b || c)) ≡ ((b || a) || c)
or-turn a b c = grind arith

pub or-none : (a : Bool) → (a || false) ≡ a
or-none true = refl
or-none false = refl

pub or-true : (a : Bool) → (a || true) ≡ true
or-true true = refl
or-true false = refl

pub and-true : (a : Bool) → (a && true) ≡ a
and-true true = refl
and-true false = refl

pub and-false : (a : Bool) → (a && false) ≡ false
and-false true = refl
and-false false = refl

-- the second is no failure where the first holds
pub and-not : (a b : Bool) → a ≡ true → (a && not b) ≡ false → b ≡ true
and-not true true e f = refl
and-not true false e f = cc
and-not false b e f = cc

-- ---- digits

pub digit-decides : (c : ℕ) → Decides (is_ascii_digit c) (IsDigit c)
digit-decides c = (
  λ h. let parts = and_parts _ _ h in (leb-true 48 c parts.0, leb-true c 57 parts.1),
  λ d. and_from _ _ (le-leb 48 c d.0) (le-leb c 57 d.1),
)

pub digits-decide : (item : List ℕ) → Decides (all_ascii_digits item) (All IsDigit item)
digits-decide item = Decides-by_and is_ascii_digit IsDigit all_ascii_digits digit-decides refl (λ _ _. refl) item

-- ---- a byte before the first line

pub onto-bytes : (byte : ℕ) (ls : List (List ℕ)) → total_bytes (onto_first byte ls) ≡ 1 + total_bytes ls
onto-bytes byte [] = refl
onto-bytes byte (l ∷ ls) =
    let more = sum_by-cons length (byte ∷ l) ls in
    let less = sum_by-cons length l ls in
    omega arith

pub onto-most : (byte : ℕ) (ls : List (List ℕ)) → length (onto_first byte ls) ≤ length ls + 1
onto-most byte [] = omega arith
onto-most byte (l ∷ ls) = omega arith

pub onto-number : (byte : ℕ) (ls : List (List ℕ)) → 1 ≤ length ls → length (onto_first byte ls) ≡ length ls
onto-number byte [] some = absurd (omega arith)
onto-number byte (l ∷ ls) some = refl

pub onto-some : (byte : ℕ) (ls : List (List ℕ)) → 1 ≤ length (onto_first byte ls)
onto-some byte [] = omega arith
onto-some byte (l ∷ ls) = omega arith

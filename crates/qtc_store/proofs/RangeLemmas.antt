-- The ranges that a store tells.
use Rattle.std.proofs.Common.{◌≡◌, ℕ, zero, suc, ◌+◌, ◌≤◌, Bool, true, false, ◌||◌, ◌&&◌, nat_lt, nat_le, List, [], ◌∷◌, ◌++◌, length, is_some, inl, inr, refl, ap, sym, ◌∙◌, eq-eqb, arith, length-append}
use Rattle.std.specs.List.{flat_map, list_any, slice_get}
use Rattle.std.proofs.lemmas.Bool.{cases_eq, ne_eqb}
use Rattle.std.proofs.lemmas.Bool.Decides.{nat_tests}
use Rattle.qtc_store.specs.declared.batch.Batch.{Batch}
use Rattle.qtc_store.specs.Batches.{end_of, values_of, covers, is_covered, AreApart}
use Rattle.qtc_store.specs.Results.{result_ranges}
use Rattle.qtc_store.specs.Visible.{meeting, visible, positions, position_ranges}
use Rattle.qtc_store.specs.Stored.{IsStore, ranges_of, in_range, AreRising, AreRangesOf}
use Rattle.qtc_store.proofs.Gap.{full_from, has_result}

-- ---- plain
plain_in : {V : Type 0} (batches : List (Batch V)) (number : ℕ) → list_any (in_range number) (result_ranges batches) ≡ is_covered batches number
plain_in [] number = refl
plain_in (b ∷ batches) number = ap (λ rest. covers number b || rest) (plain_in batches number)

plain_rise : {V : Type 0} (low : ℕ) (batches : List (Batch V)) → AreApart low batches → AreRising low (result_ranges batches)
plain_rise low [] a = tt
plain_rise low (b ∷ batches) a = (a.0, omega (arith, a.1), plain_rise (end_of b) batches a.2)

-- ---- filtered
none_past : (i : ℕ) → false ≡ nat_lt i 0
none_past i = grind (arith, nat_tests)

some_first : (n : ℕ) → true ≡ nat_lt 0 (suc n)
some_first n = grind (arith, nat_tests)

lt_shifted : (i n : ℕ) → nat_lt i n ≡ nat_lt (suc i) (suc n)
lt_shifted i n = grind (arith, nat_tests)

some_below : {V : Type 0} (xs : List V) (i : ℕ) → is_some (slice_get xs i) ≡ nat_lt i (length xs)
some_below [] i = none_past i
some_below (x ∷ xs) zero = some_first (length xs)
some_below (x ∷ xs) (suc i) = some_below xs i ∙ lt_shifted i (length xs)

or_group : (a b c : Bool) → (a || (b || c)) ≡ ((a || b) || c)
or_group a b c = grind arith

any_append : (p : ℕ × ℕ → Bool) (xs ys : List (ℕ × ℕ)) → list_any p (xs ++ ys) ≡ (list_any p xs || list_any p ys)
any_append p [] ys = refl
any_append p (x ∷ xs) ys = ap (λ rest. p x || rest) (any_append p xs ys) ∙ or_group (p x) (list_any p xs) (list_any p ys)

none_between : (position number : ℕ) → false ≡ (nat_le position number && nat_lt number (position + 0))
none_between position number = grind (arith, nat_tests)

or_none : (a : Bool) → (a || false) ≡ a
or_none a = grind arith

positions_in : (position count number : ℕ) → list_any (in_range number) (positions position count) ≡ (nat_le position number && nat_lt number (position + count))
positions_in position count number =
    elim (cases_eq count 0) [
      | inl none ↦ rw (eq-eqb count 0 none, none) (none_between position number)
      | inr some ↦ rw (ne_eqb count 0 some) (or_none (nat_le position number && nat_lt number (position + count)))
    ]

between_joined : (position count rest number : ℕ) → ((nat_le position number && nat_lt number (position + count)) || (nat_le (position + count) number && nat_lt number (position + count + rest))) ≡ (nat_le position number && nat_lt number (position + (count + rest)))
between_joined position count rest number = grind (arith, nat_tests)

visible_in : {V : Type 0} (batches : List (Batch V)) (position number : ℕ) → list_any (in_range number) (position_ranges position batches) ≡ (nat_le position number && nat_lt number (position + length (flat_map values_of batches)))
visible_in [] position number = none_between position number
visible_in (b ∷ batches) position number =
    any_append (in_range number) (positions position (length b.values)) (position_ranges (position + length b.values) batches)
    ∙ ap (λ first. first || list_any (in_range number) (position_ranges (position + length b.values) batches)) (positions_in position (length b.values) number)
    ∙ ap (λ rest. (nat_le position number && nat_lt number (position + length b.values)) || rest) (visible_in batches (position + length b.values) number)
    ∙ between_joined position (length b.values) (length (flat_map values_of batches)) number
    ∙ ap (λ len. nat_le position number && nat_lt number (position + len)) (sym (length-append b.values (flat_map values_of batches)))

visible_rise : {V : Type 0} (low position : ℕ) (batches : List (Batch V)) → low ≤ position → AreRising low (position_ranges position batches)
visible_rise low position [] h = tt
visible_rise low position (b ∷ batches) h =
    elim (cases_eq (length b.values) 0) [
      | inl none ↦ rw (eq-eqb (length b.values) 0 none) (visible_rise low (position + length b.values) batches (omega arith))
      | inr some ↦ rw (ne_eqb (length b.values) 0 some) (h, omega arith, visible_rise (position + length b.values) (position + length b.values) batches (omega arith))
    ]

from_zero : (number count : ℕ) → (nat_le 0 number && nat_lt number (0 + count)) ≡ nat_lt number count
from_zero number count = grind (arith, nat_tests)

pub ranges_told : {V : Type 0} (filter : Bool) (batches : List (Batch V)) → IsStore filter batches → AreRangesOf (record { filter = filter; batches = batches }) (ranges_of (record { filter = filter; batches = batches }))
ranges_told true batches s = record {
  rising = visible_rise 0 0 (meeting 0 batches) (omega arith);
  just = λ number. visible_in (meeting 0 batches) 0 number ∙ from_zero number (length (visible batches)) ∙ sym (some_below (visible batches) number);
}
ranges_told false batches s = record {
  rising = plain_rise 0 batches s.apart;
  just = λ number. plain_in batches number ∙ sym (has_result batches number (full_from batches s.whole));
}

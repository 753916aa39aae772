-- The first number of a range that passes a test.
use Rattle.std.proofs.Common.{◌≡◌, ℕ, zero, suc, ◌+◌, ◌-◌, ◌<◌, ◌≤◌, cond, Bool, true, false, Option, Some, None, is_none, inl, inr, refl, ap, sym, subst, arith}
use Rattle.std.specs.Prelude.{◌==◌}
use Rattle.std.specs.List.{find, range_with_len}
use Rattle.std.proofs.lemmas.Bool.{cases_lt}
use Rattle.std.proofs.lemmas.Bool.Decides.{nat_tests}
use Rattle.qtc_kernel.specs.Machine.{is_first_bad, is_index}
use Rattle.qtc_kernel.specs.Workload.{Workload, first_bad, is_bad, item_at}

module _ (p : ℕ → Bool) where
  pub found_within : (begin n index : ℕ) → find p (range_with_len begin n) ≡ Some index → (begin ≤ index) × (index < begin + n) × (p index ≡ true)
  found_within begin zero index e = absurd (cc)
  found_within begin (suc n) index e =
      elim (p begin) as (λ b. p begin ≡ b → cond b (Some begin) (find p (range_with_len (begin + 1) n)) ≡ Some index → (begin ≤ index) × (index < begin + suc n) × (p index ≡ true)) [
        | true ↦ λ is f. let same : begin ≡ index = cc in (omega arith, omega arith, subst (λ k. p k ≡ true) same is)
        | false ↦ λ is f. let later = found_within (begin + 1) n index f in (omega (arith, later.0), omega (arith, later.1), later.2)
      ] refl e

  pub none_found : (begin n index : ℕ) → find p (range_with_len begin n) ≡ None → begin ≤ index → index < begin + n → p index ≡ false
  none_found begin zero index e low high = absurd (omega arith)
  none_found begin (suc n) index e low high =
      elim (p begin) as (λ b. p begin ≡ b → cond b (Some begin) (find p (range_with_len (begin + 1) n)) ≡ None → p index ≡ false) [
        | true ↦ λ is f. absurd (cc)
        | false ↦ λ is f. elim (cases_lt begin index) [
          | inl later ↦ none_found (begin + 1) n index f (omega arith) (omega arith)
          | inr here ↦ let same : begin ≡ index = omega arith in subst (λ k. p k ≡ false) same is
        ]
      ] refl e

  pub none_in : (begin n : ℕ) → ((index : ℕ) → begin ≤ index → index < begin + n → p index ≡ false) → find p (range_with_len begin n) ≡ None
  none_in begin zero h = refl
  none_in begin (suc n) h = rw (h begin (omega arith) (omega arith)) (none_in (begin + 1) n (λ index low high. h index (omega arith) (omega arith)))

  -- where the numbers before it don't pass
  pub first_in : (begin n index : ℕ) → begin ≤ index → index < begin + n → ((k : ℕ) → begin ≤ k → k < index → p k ≡ false) → p index ≡ true → find p (range_with_len begin n) ≡ Some index
  first_in begin zero index low high before is = absurd (omega arith)
  first_in begin (suc n) index low high before is =
      elim (cases_lt begin index) [
        | inl later ↦ rw (before begin (omega arith) later) (first_in (begin + 1) n index (omega arith) (omega arith) (λ k l h. before k (omega arith) h) is)
        | inr here ↦ let same : index ≡ begin = omega arith in let now : p begin ≡ true = subst (λ k. p k ≡ true) same is in rw (now, same) refl
      ]

pub none_from : {X : Type 0} (o : Option X) → is_none o ≡ true → o ≡ None
none_from None e = refl
none_from (Some x) e = absurd (cc)

index_from : (index : ℕ) (o : Option ℕ) → is_index index o ≡ true → o ≡ Some index
index_from index None e = absurd (cc)
index_from index (Some first) e = let same : index ≡ first = equal index first e in ap Some (sym same)
  where
    equal : (a b : ℕ) → (a == b) ≡ true → a ≡ b
    equal a b e = grind (arith, nat_tests)

-- the index lies in the range, and its item is bad
pub record IsFirstBad (work : Workload) (range : ℕ × ℕ) (index : ℕ) : Type 0 where
  pub low : range.0 ≤ index
  pub high : index < range.1
  pub bad_item : is_bad (work.value (item_at work index)) ≡ true

pub first_bad_in : (work : Workload) (range : ℕ × ℕ) (index : ℕ) → range.0 ≤ range.1 → is_first_bad work range index ≡ true → IsFirstBad work range index
first_bad_in work range index whole e =
    let found = found_within (λ i. is_bad (work.value (item_at work i))) range.0 (range.1 - range.0) index (index_from index (first_bad work range) e) in
    record { low = found.0; high = omega (arith, found.1); bad_item = found.2 }

pub none_bad : (work : Workload) (range : ℕ × ℕ) (index : ℕ) → first_bad work range ≡ None → range.0 ≤ index → index < range.1 → is_bad (work.value (item_at work index)) ≡ false
none_bad work range index e low high =
    none_found (λ i. is_bad (work.value (item_at work i))) range.0 (range.1 - range.0) index e low (omega arith)

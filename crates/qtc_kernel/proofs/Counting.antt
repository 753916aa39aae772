-- How often ranges cover a number.
use Rattle.std.proofs.Common.{◌≡◌, ℕ, zero, suc, ◌+◌, ◌<◌, ◌≤◌, ◌==◌, ◌&&◌, min, nat_lt, nat_le, cond, if◌then◌else◌, true, false, not, List, [], ◌∷◌, ◌++◌, filter, refl, sym, ap, ◌∙◌, arith}
use Rattle.std.specs.List.{list_any, range_with_len}
use Rattle.std.proofs.lemmas.Bool.Decides.{nat_tests}
use Rattle.std.proofs.lemmas.List.Sums.{sum_by-cons, sum_by-append}
use Rattle.qtc_base.specs.Ranges.{clip, in_range, times_covered}
use Rattle.qtc_kernel.specs.Machine.{is_same, unless_empty}
use Rattle.qtc_kernel.specs.Runs.{times_called}

-- 1 where the range has the number, else 0
abbrev pub covers : ℕ → ℕ × ℕ → ℕ
covers number range = cond (in_range number range) 1 0

-- 1 below m, else 0
abbrev pub below : ℕ → ℕ → ℕ
below number m = cond (nat_lt number m) 1 0

pub times-cons : (number : ℕ) (range : ℕ × ℕ) (ranges : List (ℕ × ℕ)) → times_covered (range ∷ ranges) number ≡ covers number range + times_covered ranges number
times-cons number range ranges = sum_by-cons (λ (r : ℕ × ℕ). cond (in_range number r) 1 0) range ranges

pub times-append : (number : ℕ) (xs ys : List (ℕ × ℕ)) → times_covered (xs ++ ys) number ≡ times_covered xs number + times_covered ys number
times-append number xs ys = sum_by-append (λ (r : ℕ × ℕ). cond (in_range number r) 1 0) xs ys

pub times-one : (number : ℕ) (range : ℕ × ℕ) → times_covered (range ∷ []) number ≡ covers number range
times-one number range = times-cons number range [] ∙ omega arith

pub covers-clip : (number next size n : ℕ) → below number (min next n) + covers number (clip next size n) ≡ below number (min (next + size) n)
covers-clip number next size n = grind (arith, nat_tests)

-- an empty range covers nothing
pub times-unless_empty : (number : ℕ) (range : ℕ × ℕ) → times_covered (unless_empty range) number ≡ covers number range
times-unless_empty number range =
    elim (nat_lt range.0 range.1) as (λ b. nat_lt range.0 range.1 ≡ b → times_covered (if b then range ∷ [] else []) number ≡ covers number range) [
      | true ↦ λ e. times-one number range
      | false ↦ λ e. empty number range.0 range.1 e
    ] refl
  where
    empty : (number begin end : ℕ) → nat_lt begin end ≡ false → 0 ≡ cond {A = ℕ} (nat_le begin number && nat_lt number end) 1 0
    empty number begin end e = grind (arith, nat_tests)

pub covers_begin : (range : ℕ × ℕ) → range.0 < range.1 → covers range.0 range ≡ 1
covers_begin range some = grind (arith, nat_tests)

-- ---- a range taken out of a list

abbrev others : ℕ × ℕ → List (ℕ × ℕ) → List (ℕ × ℕ)
others range ranges = filter (λ other. not (is_same range other)) ranges

same-covers : (number : ℕ) (a b : ℕ × ℕ) → is_same a b ≡ true → covers number b ≡ covers number a
same-covers number a b e = grind (arith, nat_tests)

module _ (range : ℕ × ℕ) (some : range.0 < range.1) where
  none_taken : (ranges : List (ℕ × ℕ)) → times_covered ranges range.0 ≡ 0 → (number : ℕ) → times_covered ranges number ≡ times_covered (others range ranges) number
  none_taken [] none number = refl
  none_taken (x ∷ ranges) none number =
      let parts = times-cons range.0 x ranges in
      let rest = none_taken ranges (omega arith) number in
      elim (is_same range x) as (λ b. is_same range x ≡ b → times_covered (x ∷ ranges) number ≡ times_covered (cond (not b) (x ∷ others range ranges) (others range ranges)) number) [
        | true ↦ λ e. absurd (let same = same-covers range.0 range x e in let one = covers_begin range some in omega arith)
        | false ↦ λ e. times-cons number x ranges ∙ ap (λ k. covers number x + k) rest ∙ sym (times-cons number x (others range ranges))
      ] refl

  -- of one that is there, and whose first number is covered once
  pub one_taken : (ranges : List (ℕ × ℕ)) → list_any (is_same range) ranges ≡ true → times_covered ranges range.0 ≤ 1 → (number : ℕ) → times_covered ranges number ≡ times_covered (others range ranges) number + covers number range
  one_taken [] there once number = absurd (cc)
  one_taken (x ∷ ranges) there once number =
      let parts = times-cons range.0 x ranges in
      elim (is_same range x) as (λ b. is_same range x ≡ b → times_covered (x ∷ ranges) number ≡ times_covered (cond (not b) (x ∷ others range ranges) (others range ranges)) number + covers number range) [
        | true ↦ λ e.
            let same = same-covers range.0 range x e in
            let one = covers_begin range some in
            let rest = none_taken ranges (omega arith) number in
            let here = same-covers number range x e in
            times-cons number x ranges ∙ omega arith
        | false ↦ λ e.
            let later : list_any (is_same range) ranges ≡ true = rw e at there in
            let rest = one_taken ranges later (omega arith) number in
            times-cons number x ranges ∙ ap (λ k. covers number x + k) rest ∙ (let back = times-cons number x (others range ranges) in omega arith)
      ] refl

-- ---- calls

pub calls-append : (index : ℕ) (xs ys : List ℕ) → times_called (xs ++ ys) index ≡ times_called xs index + times_called ys index
calls-append index xs ys = sum_by-append (λ (c : ℕ). cond (c == index) 1 0) xs ys

calls-cons : (index call : ℕ) (calls : List ℕ) → times_called (call ∷ calls) index ≡ cond (call == index) 1 0 + times_called calls index
calls-cons index call calls = sum_by-cons (λ (c : ℕ). cond (c == index) 1 0) call calls

first-call : (index begin n : ℕ) → cond {A = ℕ} (begin == index) 1 0 + covers index (begin + 1, begin + 1 + n) ≡ covers index (begin, begin + suc n)
first-call index begin n = grind (arith, nat_tests)

calls-none : (index begin : ℕ) → 0 ≡ covers index (begin, begin + 0)
calls-none index begin = grind (arith, nat_tests)

pub calls-range : (index begin n : ℕ) → times_called (range_with_len begin n) index ≡ covers index (begin, begin + n)
calls-range index begin zero = calls-none index begin
calls-range index begin (suc n) =
    calls-cons index begin (range_with_len (begin + 1) n) ∙ ap (λ k. cond (begin == index) 1 0 + k) (calls-range index (begin + 1) n) ∙ first-call index begin n

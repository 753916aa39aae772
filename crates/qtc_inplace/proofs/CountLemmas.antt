-- How often an index is called by calls that ascend.
use Rattle.std.proofs.Common.{◌≡◌, ℕ, zero, suc, ◌+◌, ◌<◌, ◌≤◌, ◌==◌, cond, nat_lt, Bool, true, false, List, [], ◌∷◌, ◌++◌, length, get_or, All, inl, inr, refl, sym, ap, subst, ◌∙◌, arith}
use Rattle.std.specs.Prelude.{Result, Ok, Err}
use Rattle.std.specs.List.{concat, range_with_len}
use Rattle.std.specs.List.Sorted.{IsStrictlyIncreasing}
use Rattle.std.proofs.lemmas.Bool.{cases_lt}
use Rattle.std.proofs.lemmas.Bool.Decides.{nat_tests}
use Rattle.std.proofs.lemmas.List.Elements.{All-cons, All-nil}
use Rattle.std.proofs.lemmas.List.Sums.{sum_by-append}
use Rattle.qtc_inplace.proofs.CallLemmas.{range-ascends}
use Rattle.qtc_base.specs.Ranges.{times_called}
use Rattle.qtc_inplace.specs.Calls.{Calls}
use Rattle.qtc_inplace.specs.Inside.{Ascends, CallsTogether}
use Rattle.qtc_inplace.specs.declared.faults.InPlaceFault.{InPlaceFault}

-- ---- counts

times-cons : (call : ℕ) (calls : List ℕ) (index : ℕ) → times_called (call ∷ calls) index ≡ cond (call == index) 1 0 + times_called calls index
times-cons call calls index =
    let both = sum_by-append (λ (c : ℕ). cond {A = ℕ} (c == index) 1 0) (call ∷ []) calls in
    omega (arith, both)

other : (call index : ℕ) → (call ≡ index → ⊥) → cond {A = ℕ} (call == index) 1 0 ≡ 0
other call index apart = grind (arith, nat_tests)

one-itself : (call index : ℕ) → call ≡ index → cond {A = ℕ} (call == index) 1 0 ≡ 1
one-itself call index is = grind (arith, nat_tests)

at-most-one : (b : Bool) → cond {A = ℕ} b 1 0 ≤ 1
at-most-one true = omega arith
at-most-one false = omega arith

times-below : (low high : ℕ) (xs : List ℕ) (index : ℕ) → Ascends low xs high → index < low → times_called xs index ≡ 0
times-below low high [] index h below = refl
times-below low high (x ∷ xs) index h below =
    let rest = times-below (x + 1) high xs index h.2 (omega (arith, h.0)) in
    let none = other x index (λ e. omega (arith, h.0)) in
    omega (arith, times-cons x xs index, rest, none)

times-past : (low high : ℕ) (xs : List ℕ) (index : ℕ) → Ascends low xs high → high ≤ index → times_called xs index ≡ 0
times-past low high [] index h past = refl
times-past low high (x ∷ xs) index h past =
    let rest = times-past (x + 1) high xs index h.2 past in
    let none = other x index (λ e. omega (arith, h.1)) in
    omega (arith, times-cons x xs index, rest, none)

times-most : (low high : ℕ) (xs : List ℕ) (index : ℕ) → Ascends low xs high → times_called xs index ≤ 1
times-most low high [] index h = omega arith
times-most low high (x ∷ xs) index h =
    elim (cases_lt index (x + 1)) [
      | inl below ↦ omega (arith, times-cons x xs index, times-below (x + 1) high xs index h.2 below, at-most-one (x == index))
      | inr past ↦ omega (arith, times-cons x xs index, times-most (x + 1) high xs index h.2, other x index (λ e. omega arith))
    ]

times-range : (first n index : ℕ) → first ≤ index → index < first + n → times_called (range_with_len first n) index ≡ 1
times-range first zero index low high = absurd (omega arith)
times-range first (suc n) index low high =
    elim (cases_lt first index) [
      | inl later ↦ omega (arith, times-cons first (range_with_len (first + 1) n) index, times-range (first + 1) n index (omega arith) (omega arith), other first index (λ e. omega arith))
      | inr last ↦
          omega (arith, times-cons first (range_with_len (first + 1) n) index, times-below (first + 1) (first + 1 + n) (range_with_len (first + 1) n) index (range-ascends (first + 1) n) (omega arith), one-itself first index (omega arith))
    ]

below-n : (index n : ℕ) → index < n → cond {A = ℕ} (nat_lt index n) 1 0 ≡ 1
below-n index n lt = grind (arith, nat_tests)

past-n : (index n : ℕ) → n ≤ index → cond {A = ℕ} (nat_lt index n) 1 0 ≡ 0
past-n index n le = grind (arith, nat_tests)

each-once : (n index : ℕ) → times_called (range_with_len 0 n) index ≡ cond (nat_lt index n) 1 0
each-once n index =
    elim (cases_lt index n) [
      | inl lt ↦ times-range 0 n index (omega arith) (omega arith) ∙ sym (below-n index n lt)
      | inr le ↦ times-past 0 (0 + n) (range_with_len 0 n) index (range-ascends 0 n) (omega arith) ∙ sym (past-n index n le)
    ]

none-twice : (n : ℕ) (xs : List ℕ) (index : ℕ) → Ascends 0 xs (0 + n) → times_called xs index ≤ cond (nat_lt index n) 1 0
none-twice n xs index h =
    elim (cases_lt index n) [
      | inl lt ↦ omega (arith, times-most 0 (0 + n) xs index h, below-n index n lt)
      | inr le ↦ omega (arith, times-past 0 (0 + n) xs index h (omega arith), past-n index n le)
    ]

-- ---- parts

ascends-lower : (lower low high : ℕ) (xs : List ℕ) → lower ≤ low → Ascends low xs high → Ascends lower xs high
ascends-lower lower low high [] le h = omega (arith, h)
ascends-lower lower low high (x ∷ xs) le h = (omega (arith, h.0), h.1, h.2)

ascends-front : (low high : ℕ) (xs ys : List ℕ) → Ascends low (xs ++ ys) high → Ascends low xs high
ascends-front low high [] [] h = h
ascends-front low high [] (y ∷ ys) h = omega (arith, h.0, h.1)
ascends-front low high (x ∷ xs) ys h = (h.0, h.1, ascends-front (x + 1) high xs ys h.2)

ascends-back : (low high : ℕ) (xs ys : List ℕ) → Ascends low (xs ++ ys) high → Ascends low ys high
ascends-back low high [] ys h = h
ascends-back low high (x ∷ xs) ys h = ascends-lower low (x + 1) high ys (omega (arith, h.0)) (ascends-back (x + 1) high xs ys h.2)

next-above : (low high : ℕ) (xs : List ℕ) (k : ℕ) → Ascends low xs high → suc k < length xs → get_or xs k 0 < get_or xs (suc k) 0
next-above low high [] k h within = absurd (omega arith)
next-above low high (x ∷ []) k h within = absurd (omega arith)
next-above low high (x ∷ y ∷ xs) zero h within = omega (arith, h.2.0)
next-above low high (x ∷ y ∷ xs) (suc k) h within = next-above (x + 1) high (y ∷ xs) k h.2 (omega arith)

increasing : (low high : ℕ) (xs : List ℕ) → Ascends low xs high → IsStrictlyIncreasing xs
increasing low high xs h k within =
    let e : suc k ≡ k + 1 = omega arith in
    subst (λ m. get_or xs k 0 < get_or xs m 0) e (next-above low high xs k h (omega arith))

all-increasing : (low high : ℕ) (added : List (List ℕ)) → Ascends low (concat added) high → All IsStrictlyIncreasing added
all-increasing low high [] h = All-nil IsStrictlyIncreasing
all-increasing low high (calls ∷ added) h =
    All-cons IsStrictlyIncreasing calls added (increasing low high calls (ascends-front low high calls (concat added) h))
    (all-increasing low high added (ascends-back low high calls (concat added) h))

-- ---- all functions' calls

pub all-calls : {F X : Type 0} (called : F → List ℕ) (before after : List F) (n : ℕ) (result : Result X InPlaceFault) → CallsTogether called 0 n before after result → Calls called before after n result
all-calls called before after n (Ok x) h = record {
  added = h.added;
  appended = h.appended;
  ascending = all-increasing 0 (0 + n) h.added (subst (λ xs. Ascends 0 xs (0 + n)) (sym h.called) (range-ascends 0 n));
  once = λ index. ap (λ xs. times_called xs index) h.called ∙ each-once n index;
}
all-calls called before after n (Err fault) h = record {
  added = h.added;
  appended = h.appended;
  ascending = all-increasing 0 (0 + n) h.added h.called;
  most = λ index. none-twice n (concat h.added) index h.called;
}

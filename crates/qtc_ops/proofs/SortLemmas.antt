-- The values in order are the one ascending permutation.
use Rattle.std.proofs.Common.{◌≡◌, ℕ, zero, suc, ◌+◌, ◌<◌, true, false, cond, List, [], ◌∷◌, length, get_or, sum_by, refl, sym, ap, ◌∙◌, ⊎_elim, arith}
use Rattle.std.specs.List.Sorted.{IsPermutation, IsSorted}
use Rattle.std.specs.Ordering.{is_lt, ordering_reverse}
use Rattle.std.specs.Cmp.Lexicographic.{nat_list_cmp_total}
use Rattle.std.specs.declared.cmp.Ordering.{Ordering}
use Rattle.std.specs.declared.cmp.Ordering.TheVariants.{Less, Equal, Greater}
use Rattle.std.proofs.lemmas.Bool.{cases_Bool, false≢true, false_from_ne_true}
use Rattle.std.proofs.lemmas.List.Sorted.{IsPermutation-refl, IsPermutation-sym, IsPermutation-trans, IsPermutation-cons, IsPermutation-middle, sum_by-IsPermutation, sorted_far, ranks_by}
use Rattle.std.proofs.lemmas.List.Sums.{sum_by-cons}
use Rattle.std.proofs.lemmas.Map.Lookups.{exact_bytes}
use Rattle.qtc_ops.specs.ListOps.{inserted, sorted}
use Rattle.qtc_ops.specs.Order.{bytes_cmp}

-- ---- the order of two values

less-back : (a b : Ordering) → a ≡ ordering_reverse b → is_lt a ≡ true → is_lt b ≡ false
less-back a Less e h = absurd (false≢true (rw e at h))
less-back a Equal e h = refl
less-back a Greater e h = refl

pub one_way : (x y : List ℕ) → is_lt (bytes_cmp x y) ≡ true → is_lt (bytes_cmp y x) ≡ false
one_way x y h = less-back (bytes_cmp x y) (bytes_cmp y x) (nat_list_cmp_total.antisymm x y) h

tied : (a b : Ordering) → a ≡ ordering_reverse b → is_lt a ≡ false → is_lt b ≡ false → a ≡ Equal
tied a Less e h k = absurd (false≢true (sym k))
tied a Equal e h k = e
tied a Greater e h k = absurd (false≢true (sym (rw e at h)))

same-from_ties : (x y : List ℕ) → is_lt (bytes_cmp x y) ≡ false → is_lt (bytes_cmp y x) ≡ false → x ≡ y
same-from_ties x y h k = exact_bytes x y (tied (bytes_cmp x y) (bytes_cmp y x) (nat_list_cmp_total.antisymm x y) h k)

-- ---- ascending lists, from the front

pub IsSorted-tail : (x : List ℕ) (xs : List (List ℕ)) → IsSorted bytes_cmp (x ∷ xs) → IsSorted bytes_cmp xs
IsSorted-tail x xs up k d low high =
    let next : suc k + 1 ≡ suc (k + 1) = omega arith in rw next at (up (suc k) d (omega arith) (omega arith))

pub IsSorted-cons : (x y : List ℕ) (ys : List (List ℕ)) → is_lt (bytes_cmp y x) ≡ false → IsSorted bytes_cmp (y ∷ ys) → IsSorted bytes_cmp (x ∷ y ∷ ys)
IsSorted-cons x y ys first up zero d low high = first
IsSorted-cons x y ys first up (suc k) d low high =
    let next : suc k + 1 ≡ suc (k + 1) = omega arith in rw next (up k d (omega arith) (omega arith))

IsSorted-short : (x : List ℕ) → IsSorted bytes_cmp (x ∷ [])
IsSorted-short x k d low high = absurd (omega arith)

IsSorted-head : (x y : List ℕ) (ys : List (List ℕ)) → IsSorted bytes_cmp (x ∷ y ∷ ys) → is_lt (bytes_cmp y x) ≡ false
IsSorted-head x y ys up = up 0 [] (omega arith) (omega arith)

-- ---- a value at its place

inserted-after : (w v : List ℕ) (xs : List (List ℕ)) → is_lt (bytes_cmp v w) ≡ false → IsSorted bytes_cmp (w ∷ xs) → IsSorted bytes_cmp (w ∷ inserted v xs)
inserted-after w v [] above up = IsSorted-cons w v [] above (IsSorted-short v)
inserted-after w v (x ∷ xs) above up =
    ⊎_elim
    (λ later. rw later (IsSorted-cons w x (inserted v xs) (IsSorted-head w x xs up) (inserted-after x v xs (one_way x v later) (IsSorted-tail w (x ∷ xs) up))))
    (λ here. rw here (IsSorted-cons w v (x ∷ xs) above (IsSorted-cons v x xs here (IsSorted-tail w (x ∷ xs) up))))
    (cases_Bool (is_lt (bytes_cmp x v)))

pub inserted-sorted : (v : List ℕ) (xs : List (List ℕ)) → IsSorted bytes_cmp xs → IsSorted bytes_cmp (inserted v xs)
inserted-sorted v [] up = IsSorted-short v
inserted-sorted v (x ∷ xs) up =
    ⊎_elim
    (λ later. rw later (inserted-after x v xs (one_way x v later) up))
    (λ here. rw here (IsSorted-cons v x xs here up))
    (cases_Bool (is_lt (bytes_cmp x v)))

inserted-moves : (v : List ℕ) (xs : List (List ℕ)) → IsPermutation (v ∷ xs) (inserted v xs)
inserted-moves v [] = IsPermutation-refl (v ∷ [])
inserted-moves v (x ∷ xs) =
    ⊎_elim
    (λ later. rw later (IsPermutation-trans (v ∷ x ∷ xs) (x ∷ v ∷ xs) (x ∷ inserted v xs) (IsPermutation-sym (x ∷ v ∷ xs) (v ∷ x ∷ xs) (IsPermutation-middle (x ∷ []) v xs)) (IsPermutation-cons x (v ∷ xs) (inserted v xs) (inserted-moves v xs))))
    (λ here. rw here (IsPermutation-refl (v ∷ x ∷ xs)))
    (cases_Bool (is_lt (bytes_cmp x v)))

pub sorted-sorted : (xs : List (List ℕ)) → IsSorted bytes_cmp (sorted xs)
sorted-sorted [] = λ k d low high. absurd (omega arith)
sorted-sorted (x ∷ xs) = inserted-sorted x (sorted xs) (sorted-sorted xs)

pub sorted-moves : (xs : List (List ℕ)) → IsPermutation xs (sorted xs)
sorted-moves [] = IsPermutation-refl []
sorted-moves (x ∷ xs) =
    IsPermutation-trans (x ∷ xs) (x ∷ sorted xs) (inserted x (sorted xs)) (IsPermutation-cons x xs (sorted xs) (sorted-moves xs)) (inserted-moves x (sorted xs))

-- ---- there is no other ascending permutation

-- no value of an ascending list is below its first
below_none : (y : List ℕ) (ys rest : List (List ℕ)) → ((k : ℕ) → k < length rest → is_lt (bytes_cmp (get_or rest k []) y) ≡ false) → sum_by (λ z. cond (is_lt (bytes_cmp z y)) 1 0) rest ≡ 0
below_none y ys [] none = refl
below_none y ys (z ∷ rest) none =
    let here = none 0 (omega arith) in
    let there = below_none y ys rest (λ k lt. none (suc k) (omega arith)) in
    sum_by-cons (λ z. cond (is_lt (bytes_cmp z y)) 1 0) z rest ∙ rw (here, there) refl

sorted-below_none : (y : List ℕ) (ys : List (List ℕ)) → IsSorted bytes_cmp (y ∷ ys) → sum_by (λ z. cond (is_lt (bytes_cmp z y)) 1 0) (y ∷ ys) ≡ 0
sorted-below_none y ys up =
    below_none y ys (y ∷ ys) (λ k lt. sorted_far (λ a b. is_lt (bytes_cmp a b)) (ranks_by nat_list_cmp_total (λ a. a)) (y ∷ ys) up 0 k [] (omega arith) lt)

first-not_below : (x y : List ℕ) (xs : List (List ℕ)) → sum_by (λ z. cond (is_lt (bytes_cmp z y)) 1 0) (x ∷ xs) ≡ 0 → is_lt (bytes_cmp x y) ≡ false
first-not_below x y xs none =
    false_from_ne_true _ (λ below.
    let total : sum_by (λ z. cond (is_lt (bytes_cmp z y)) 1 0) (x ∷ xs) ≡ 1 + sum_by (λ z. cond (is_lt (bytes_cmp z y)) 1 0) xs = sum_by-cons (λ z. cond (is_lt (bytes_cmp z y)) 1 0) x xs ∙ rw below refl in
    omega arith)

-- two lists with the same totals, whatever weighs their values
abbrev SameTotals : List (List ℕ) → List (List ℕ) → Type 0
SameTotals xs ys = (f : List ℕ → ℕ) → sum_by f xs ≡ sum_by f ys

pub ascending-unique : (xs ys : List (List ℕ)) → SameTotals xs ys → IsSorted bytes_cmp xs → IsSorted bytes_cmp ys → xs ≡ ys
ascending-unique [] [] same up vp = refl
ascending-unique [] (y ∷ ys) same up vp = let e = same (λ _. 1) in let c = sum_by-cons (λ _. 1) y ys in absurd (omega arith)
ascending-unique (x ∷ xs) [] same up vp = let e = same (λ _. 1) in let c = sum_by-cons (λ _. 1) x xs in absurd (omega arith)
ascending-unique (x ∷ xs) (y ∷ ys) same up vp =
    let x_above = first-not_below x y xs (same (λ z. cond (is_lt (bytes_cmp z y)) 1 0) ∙ sorted-below_none y ys vp) in
    let y_above = first-not_below y x ys (sym (same (λ z. cond (is_lt (bytes_cmp z x)) 1 0)) ∙ sorted-below_none x xs up) in
    let first : x ≡ y = same-from_ties x y x_above y_above in
    let rest : SameTotals xs ys = λ f.
    let e = same f in
    let a = sum_by-cons f x xs in
    let b = sum_by-cons f y ys in
    let c = ap f first in
    omega arith in
    let others = ascending-unique xs ys rest (IsSorted-tail x xs up) (IsSorted-tail y ys vp) in
    cc

pub sorted-is : (xs ys : List (List ℕ)) → IsPermutation xs ys → IsSorted bytes_cmp ys → ys ≡ sorted xs
sorted-is xs ys moves up =
    ascending-unique ys (sorted xs)
    (λ f. sum_by-IsPermutation f xs ys moves ∙ sym (sum_by-IsPermutation f xs (sorted xs) (sorted-moves xs)))
    up (sorted-sorted xs)

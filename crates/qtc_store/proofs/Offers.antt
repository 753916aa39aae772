-- Additions offered one after the other.
use Rattle.std.proofs.Common.{◌≡◌, ℕ, ◌+◌, max, Bool, true, false, ◌&&◌, ◌||◌, nat_lt, nat_eq, cond, List, [], ◌∷◌, ◌++◌, Some, is_none, unwrap_or, fold, inl, inr, refl, ap, sym, ◌∙◌, arith}
use Rattle.std.specs.List.{find, range_with_len}
use Rattle.std.proofs.lemmas.Bool.{cases_lt}
use Rattle.std.proofs.lemmas.Bool.Decides.{nat_tests}
use Rattle.qtc_store.specs.declared.batch.Batch.{Batch}
use Rattle.qtc_store.specs.declared.batch.Addition.{Addition}
use Rattle.qtc_store.specs.Batches.{covers, is_covered, least_covered, greatest_end, placed, in_order}
use Rattle.qtc_store.specs.Stored.{Stored, refusal, refusal_of, with_batch}
use Rattle.qtc_store.specs.Adds.{batch_of, accepted_with, accepted_of, offered}
use Rattle.qtc_store.proofs.Placed.{placed-before, placed-after, greatest_end-placed}

-- ---- a fold and one element more
pub fold_push : {A B : Type 0} (f : B → A → B) (start : B) (xs : List A) (x : A) → fold f start (xs ++ x ∷ []) ≡ f (fold f start xs) x
fold_push f start [] x = refl
fold_push f start (y ∷ xs) x = fold_push f (f start y) xs x

-- ---- what does not depend on the order
or_swap : (a b c : Bool) → (a || (b || c)) ≡ (b || (a || c))
or_swap a b c = grind arith

or_group : (a b c : Bool) → (a || (b || c)) ≡ ((b || a) || c)
or_group a b c = grind arith

pub is_covered-placed : {V : Type 0} (batches : List (Batch V)) (b : Batch V) (index : ℕ) → is_covered (placed batches b) index ≡ (covers index b || is_covered batches index)
is_covered-placed [] b index = refl
is_covered-placed (first ∷ batches) b index =
    elim (cases_lt b.begin first.begin) [
      | inl before ↦ ap (λ xs. is_covered xs index) (placed-before first batches b before)
      | inr after ↦ ap (λ xs. is_covered xs index) (placed-after first batches b after) ∙ ap (λ rest. covers index first || rest) (is_covered-placed batches b index) ∙ or_swap (covers index first) (covers index b) (is_covered batches index)
    ]

is_covered-fold : {V : Type 0} (start batches : List (Batch V)) (index : ℕ) → is_covered (fold placed start batches) index ≡ (is_covered batches index || is_covered start index)
is_covered-fold start [] index = refl
is_covered-fold start (b ∷ batches) index =
    is_covered-fold (placed start b) batches index ∙ ap (λ c. is_covered batches index || c) (is_covered-placed start b index) ∙ or_group (is_covered batches index) (covers index b) (is_covered start index)

or_none : (a : Bool) → (a || false) ≡ a
or_none true = refl
or_none false = refl

pub is_covered-in_order : {V : Type 0} (batches : List (Batch V)) (index : ℕ) → is_covered (in_order batches) index ≡ is_covered batches index
is_covered-in_order batches index = is_covered-fold [] batches index ∙ or_none (is_covered batches index)

find_agree : (p q : ℕ → Bool) → ((x : ℕ) → p x ≡ q x) → (xs : List ℕ) → find p xs ≡ find q xs
find_agree p q same [] = refl
find_agree p q same (x ∷ xs) = rw (same x, find_agree p q same xs) refl

pub least_covered-in_order : {V : Type 0} (batches : List (Batch V)) (begin total : ℕ) → least_covered (in_order batches) begin total ≡ least_covered batches begin total
least_covered-in_order batches begin total = find_agree (is_covered (in_order batches)) (is_covered batches) (is_covered-in_order batches) (range_with_len begin total)

greatest_end-fold : {V : Type 0} (start batches : List (Batch V)) → greatest_end (fold placed start batches) ≡ max (greatest_end batches) (greatest_end start)
greatest_end-fold start [] = omega arith
greatest_end-fold start (b ∷ batches) = omega (arith, greatest_end-fold (placed start b) batches, greatest_end-placed start b)

pub greatest_end-in_order : {V : Type 0} (batches : List (Batch V)) → greatest_end (in_order batches) ≡ greatest_end batches
greatest_end-in_order {V = V} batches = omega (arith, greatest_end-fold {V = V} [] batches)

-- ---- one addition
refusal_of-in_order : {V : Type 0} (accepted : List (Batch V)) (begin total : ℕ) → refusal_of (in_order accepted) begin total ≡ refusal_of accepted begin total
refusal_of-in_order accepted begin total = ap (λ least. refusal least (begin + total)) (least_covered-in_order accepted begin total)

batch_of-in_order : {V : Type 0} (accepted : List (Batch V)) (addition : Addition V) → batch_of (in_order accepted) addition ≡ batch_of accepted addition
batch_of-in_order accepted addition = ap (λ end. record { begin = unwrap_or addition.begin end; values = addition.values; total = addition.total }) (greatest_end-in_order accepted)

-- the store of accepted batches
stored : {V : Type 0} → Bool → List (Batch V) → Stored V
stored filter accepted = record { filter = filter; batches = in_order accepted }

taken_up : {V : Type 0} (filter : Bool) (accepted : List (Batch V)) (b : Batch V) (free : Bool) → cond free (with_batch (stored filter accepted) b) (stored filter accepted) ≡ stored filter (cond (free && nat_lt 0 b.total) (accepted ++ b ∷ []) accepted)
unfolding stored
taken_up filter accepted b false = refl
taken_up filter accepted b true =
    elim (cases_lt 0 b.total) [
      | inl some ↦
          let not_zero : nat_eq b.total 0 ≡ false = grind (arith, nat_tests) in
          let above : nat_lt 0 b.total ≡ true = grind (arith, nat_tests) in
          rw (not_zero, above) (ap (λ xs. record { filter = filter; batches = xs }) (sym (fold_push placed [] accepted b)))
      | inr none ↦
          let is_zero : nat_eq b.total 0 ≡ true = grind (arith, nat_tests) in
          let above : nat_lt 0 b.total ≡ false = grind (arith, nat_tests) in
          rw (is_zero, above) refl
    ]

pub offered_accepted : {V : Type 0} (filter : Bool) (accepted : List (Batch V)) (addition : Addition V) → offered (record { filter = filter; batches = in_order accepted }) addition ≡ record { filter = filter; batches = in_order (accepted_with accepted addition) }
unfolding stored
offered_accepted filter accepted addition =
    let b = batch_of accepted addition in
    ap (λ x. cond (is_none (refusal_of (in_order accepted) x.begin x.total)) (with_batch (stored filter accepted) x) (stored filter accepted)) (batch_of-in_order accepted addition)
    ∙ ap (λ r. cond (is_none r) (with_batch (stored filter accepted) b) (stored filter accepted)) (refusal_of-in_order accepted b.begin b.total)
    ∙ taken_up filter accepted b (is_none (refusal_of accepted b.begin b.total))

pub accepted_of-push : {V : Type 0} (additions : List (Addition V)) (addition : Addition V) → accepted_of (additions ++ addition ∷ []) ≡ accepted_with (accepted_of additions) addition
accepted_of-push additions addition = fold_push accepted_with [] additions addition

-- a refused addition changes nothing
pub offered-refused : {V : Type 0} (store : Stored V) (addition : Addition V) (begin index : ℕ) → begin ≡ unwrap_or addition.begin (greatest_end store.batches) → least_covered store.batches begin addition.total ≡ Some index → offered store addition ≡ store
offered-refused store addition begin index at taken =
    ap (λ b. cond (is_none (refusal (least_covered store.batches b addition.total) (b + addition.total))) (with_batch store (record { begin = b; values = addition.values; total = addition.total })) store) (sym at)
    ∙ ap (λ least. cond (is_none (refusal least (begin + addition.total))) (with_batch store (record { begin = begin; values = addition.values; total = addition.total })) store) taken

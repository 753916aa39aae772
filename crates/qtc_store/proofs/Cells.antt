-- The values of batches, by index and by position.
use Rattle.std.proofs.Common.{◌≡◌, ℕ, zero, suc, ◌+◌, ◌-◌, ◌<◌, ◌≤◌, true, false, ◌==◌, List, [], ◌∷◌, ◌++◌, length, get_or, Some, inl, inr, refl, eq-eqb, ap, ◌∙◌, arith}
use Rattle.std.specs.List.{slice_get, enumerate_from}
use Rattle.std.specs.Ordering.{nat_cmp}
use Rattle.std.specs.Cmp.{unsigned_tied}
use Rattle.std.specs.FinMap.{find}
use Rattle.std.proofs.lemmas.Bool.{ne_eqb, cases_eq}
use Rattle.std.specs.FinMap.{get, get-from_entries}
use Rattle.std.specs.Cmp.{nat_cmp_total}
use Rattle.std.specs.List.{flat_map}
use Rattle.qtc_store.specs.declared.batch.Batch.{Batch}
use Rattle.qtc_store.specs.Results.{cells_of, results}

-- ---- by index
pub find-past : {V : Type 0} (q begin : ℕ) (values : List V) (es : List (ℕ × V)) → begin + length values ≤ q → find nat_cmp q (enumerate_from begin values ++ es) ≡ find nat_cmp q es
find-past q begin [] es h = refl
find-past q begin (v ∷ values) es h =
    rw (unsigned_tied q begin, ne_eqb q begin (λ e. absurd (omega arith))) (find-past q (begin + 1) values es (omega arith))

pub find-before : {V : Type 0} (q begin : ℕ) (values : List V) (es : List (ℕ × V)) → q < begin → find nat_cmp q (enumerate_from begin values ++ es) ≡ find nat_cmp q es
find-before q begin [] es h = refl
find-before q begin (v ∷ values) es h =
    rw (unsigned_tied q begin, ne_eqb q begin (λ e. absurd (omega arith))) (find-before q (begin + 1) values es (omega arith))

pub find-at : {V : Type 0} (q begin : ℕ) (values : List V) (es : List (ℕ × V)) (d : V) → begin ≤ q → q < begin + length values → find nat_cmp q (enumerate_from begin values ++ es) ≡ Some (get_or values (q - begin) d)
find-at q begin [] es d low high = absurd (omega arith)
find-at q begin (v ∷ values) es d low high =
    elim (cases_eq q begin) [
      | inl same ↦
          let tied : (q == begin) ≡ true = eq-eqb q begin same in
          let none : q - begin ≡ 0 = omega arith in
          rw (unsigned_tied q begin, tied, none) refl
      | inr other ↦
          let apart : (q == begin) ≡ false = ne_eqb q begin other in
          let less : q - begin ≡ suc (q - (begin + 1)) = omega arith in
          rw (unsigned_tied q begin, apart, less) (find-at q (begin + 1) values es d (omega arith) (omega arith))
    ]

-- ---- by position
pub slice_get-append_left : {V : Type 0} (xs ys : List V) (i : ℕ) (d : V) → i < length xs → slice_get (xs ++ ys) i ≡ Some (get_or xs i d)
slice_get-append_left [] ys i d h = absurd (omega arith)
slice_get-append_left (x ∷ xs) ys zero d h = refl
slice_get-append_left (x ∷ xs) ys (suc i) d h = slice_get-append_left xs ys i d (omega arith)

pub slice_get-append_right : {V : Type 0} (xs ys : List V) (i : ℕ) → length xs ≤ i → slice_get (xs ++ ys) i ≡ slice_get ys (i - length xs)
slice_get-append_right [] ys i h = ap (slice_get ys) (omega arith)
slice_get-append_right (x ∷ xs) ys zero h = absurd (omega arith)
slice_get-append_right (x ∷ xs) ys (suc i) h = slice_get-append_right xs ys i (omega arith) ∙ ap (slice_get ys) (omega arith)

-- ---- the map of batches
pub results_found : {V : Type 0} (batches : List (Batch V)) (q : ℕ) → get (results batches) q ≡ find nat_cmp q (flat_map cells_of batches)
results_found batches q = get-from_entries nat_cmp_total (flat_map cells_of batches) q

-- What an accepted batch leaves as it was.
use Rattle.std.proofs.Common.{◌≡◌, ◌≢◌, ℕ, zero, suc, ◌<◌, ◌≤◌, Bool, true, false, cond, List, [], ◌∷◌, ◌++◌, length, All, Some, is_some, inl, inr, refl, ap, sym, ◌∙◌, arith, append_assoc}
use Rattle.std.specs.List.{flat_map, slice_get}
use Rattle.std.specs.Ordering.{nat_cmp, eq_by_cmp}
use Rattle.std.specs.FinMap.{find, get}
use Rattle.std.proofs.lemmas.Bool.{cases_lt, cases_eq, false≢true}
use Rattle.std.proofs.lemmas.Bool.Decides.{nat_tests}
use Rattle.qtc_store.specs.declared.batch.Batch.{Batch}
use Rattle.qtc_store.specs.Batches.{end_of, values_of, covers, is_covered, placed, AreApart, IsWhole}
use Rattle.qtc_store.specs.Results.{cells_of, results}
use Rattle.qtc_store.specs.Visible.{meeting, visible}
use Rattle.qtc_store.specs.Stored.{IsStore, KeepsResults}
use Rattle.qtc_store.proofs.Cells.{find-before, find-past, results_found}
use Rattle.qtc_store.proofs.Gap.{IsFull, found_covered, full_from}
use Rattle.qtc_store.proofs.Placed.{IsFree, free_first, free_rest, not_covered, placed-before, placed-after}
use Rattle.qtc_store.proofs.Meeting.{meeting-next, meeting-stop}

-- ---- plain
find_congruent : {V : Type 0} (q : ℕ) (xs es fs : List (ℕ × V)) → find nat_cmp q es ≡ find nat_cmp q fs → find nat_cmp q (xs ++ es) ≡ find nat_cmp q (xs ++ fs)
find_congruent q [] es fs e = e
find_congruent q (x ∷ xs) es fs e = ap (cond (eq_by_cmp nat_cmp q x.0) (Some x.1)) (find_congruent q xs es fs e)

pub skip_batch : {V : Type 0} (q : ℕ) (b : Batch V) (es : List (ℕ × V)) → length b.values ≤ b.total → covers q b ≡ false → find nat_cmp q (cells_of b ++ es) ≡ find nat_cmp q es
skip_batch q b es few out =
    elim (cases_lt q b.begin) [
      | inl before ↦ find-before q b.begin b.values es before
      | inr after ↦ find-past q b.begin b.values es (let past = not_covered b q out after in omega (arith, past))
    ]

pub found_others : {V : Type 0} (q : ℕ) (batches : List (Batch V)) (b : Batch V) → length b.values ≤ b.total → covers q b ≡ false → find nat_cmp q (flat_map cells_of (placed batches b)) ≡ find nat_cmp q (flat_map cells_of batches)
found_others q [] b few out = skip_batch q b [] few out
found_others q (first ∷ batches) b few out =
    elim (cases_lt b.begin first.begin) [
      | inl before ↦ ap (λ xs. find nat_cmp q (flat_map cells_of xs)) (placed-before first batches b before) ∙ skip_batch q b (flat_map cells_of (first ∷ batches)) few out
      | inr after ↦ ap (λ xs. find nat_cmp q (flat_map cells_of xs)) (placed-after first batches b after) ∙ find_congruent q (cells_of first) _ _ (found_others q batches b few out)
    ]

found_outside : {V : Type 0} (batches : List (Batch V)) (b : Batch V) (q : ℕ) (v : V) → All IsFull batches → IsFree batches b.begin (end_of b) → find nat_cmp q (flat_map cells_of batches) ≡ Some v → covers q b ≡ false
found_outside batches b q v full f e =
    let covered : is_covered batches q ≡ true = sym (found_covered q batches full) ∙ ap is_some e in
    elim (cases_lt q b.begin) [
      | inl before ↦ grind (arith, nat_tests)
      | inr after ↦ elim (cases_lt q (end_of b)) [
        | inl within ↦ absurd (false≢true (sym (f.free q after within) ∙ covered))
        | inr past ↦ grind (arith, nat_tests)
      ]
    ]

plain_kept : {V : Type 0} (batches : List (Batch V)) (b : Batch V) → All IsFull batches → length b.values ≤ b.total → IsFree batches b.begin (end_of b) → (q : ℕ) (v : V) → get (results batches) q ≡ Some v → get (results (placed batches b)) q ≡ Some v
plain_kept batches b full few f q v e =
    let found = sym (results_found batches q) ∙ e in
    results_found (placed batches b) q ∙ found_others q batches b few (found_outside batches b q v full f found) ∙ found

-- ---- filtered: what was visible is a front of what is visible
unfoldable pub shown_from : {V : Type 0} → ℕ → List (Batch V) → List V
shown_from low batches = flat_map values_of (meeting low batches)

pub record Grows {V : Type 0} (old new : List V) : Type 0 where
  pub more : List V
  pub grown : new ≡ old ++ more

from_none : {V : Type 0} (old new : List V) → old ≡ [] → Grows old new
from_none old new e = record { more = new; grown = ap (λ xs. xs ++ new) (sym e) }

pub shown-next : {V : Type 0} (b : Batch V) (batches : List (Batch V)) (low : ℕ) → b.begin ≡ low → shown_from low (b ∷ batches) ≡ b.values ++ shown_from (end_of b) batches
unfolding shown_from
shown-next b batches low e = ap (flat_map values_of) (meeting-next b batches low e)

pub shown-stop : {V : Type 0} (b : Batch V) (batches : List (Batch V)) (low : ℕ) → b.begin ≢ low → shown_from low (b ∷ batches) ≡ []
unfolding shown_from
shown-stop b batches low ne = ap (flat_map values_of) (meeting-stop b batches low ne)

shown_grows : {V : Type 0} (low : ℕ) (batches : List (Batch V)) (b : Batch V) → AreApart low batches → low ≤ b.begin → 0 < b.total → IsFree batches b.begin (end_of b) → Grows (shown_from low batches) (shown_from low (placed batches b))
unfolding shown_from
shown_grows low [] b a above some f = from_none _ _ refl
shown_grows low (first ∷ batches) b a above some f =
    elim (cases_lt b.begin first.begin) [
      | inl before ↦ from_none _ _ (shown-stop first batches low (λ e. absurd (omega arith)))
      | inr after ↦
          let past = not_covered first b.begin (free_first first batches b.begin (end_of b) b.begin f (omega arith) (omega arith)) after in
          let is = placed-after first batches b after in
          elim (cases_eq first.begin low) [
            | inl same ↦
                let rest = shown_grows (end_of first) batches b a.2 past some (free_rest first batches b.begin (end_of b) f) in
                record {
                  more = rest.more;
                  grown = ap (shown_from low) is ∙ shown-next first (placed batches b) low same ∙ ap (λ xs. first.values ++ xs) rest.grown ∙ sym (append_assoc first.values (shown_from (end_of first) batches) rest.more) ∙ ap (λ xs. xs ++ rest.more) (sym (shown-next first batches low same));
                }
            | inr other ↦ from_none _ _ (shown-stop first batches low other)
          ]
    ]

slice_get_grown : {V : Type 0} (xs ys : List V) (i : ℕ) (v : V) → slice_get xs i ≡ Some v → slice_get (xs ++ ys) i ≡ Some v
slice_get_grown [] ys i v e = absurd (cc)
slice_get_grown (x ∷ xs) ys zero v e = e
slice_get_grown (x ∷ xs) ys (suc i) v e = slice_get_grown xs ys i v e

visible_kept : {V : Type 0} (batches : List (Batch V)) (b : Batch V) → AreApart 0 batches → 0 < b.total → IsFree batches b.begin (end_of b) → (i : ℕ) (v : V) → slice_get (visible batches) i ≡ Some v → slice_get (visible (placed batches b)) i ≡ Some v
unfolding shown_from
visible_kept batches b a some f i v e =
    let g = shown_grows 0 batches b a (omega arith) some f in
    ap (λ xs. slice_get xs i) g.grown ∙ slice_get_grown (visible batches) g.more i v e

-- ---- a batch that is accepted
pub kept_by_mode : {V : Type 0} (filter : Bool) (batches : List (Batch V)) (b : Batch V) → IsStore filter batches → IsWhole filter b → 0 < b.total → IsFree batches b.begin (end_of b) → KeepsResults (record { filter = filter; batches = batches }) (record { filter = filter; batches = placed batches b })
kept_by_mode true batches b s w some f = visible_kept batches b s.apart some f
kept_by_mode false batches b s w some f = plain_kept batches b (full_from batches s.whole) w.few f

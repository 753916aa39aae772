-- The results below the count.
use Rattle.std.proofs.Common.{◌≡◌, ℕ, ◌+◌, ◌-◌, ◌<◌, Bool, true, false, List, [], ◌∷◌, ◌++◌, length, get_or, All, Some, inl, inr, refl, ap, sym, ◌∙◌, arith, length-append}
use Rattle.std.specs.List.{flat_map, enumerate_from, slice_get}
use Rattle.std.specs.Ordering.{nat_cmp}
use Rattle.std.specs.FinMap.{find}
use Rattle.std.proofs.lemmas.Bool.{cases_lt, cases_eq}
use Rattle.std.proofs.lemmas.List.Elements.{All-head, All-tail}
use Rattle.qtc_store.specs.declared.batch.Batch.{Batch}
use Rattle.qtc_store.specs.Batches.{end_of}
use Rattle.qtc_store.specs.Results.{cells_of}
use Rattle.qtc_store.specs.Visible.{meeting_end, visible}
use Rattle.qtc_store.specs.Stored.{IsStore, IsFirstResults}
use Rattle.qtc_store.proofs.Cells.{find-past, find-at, results_found, slice_get-append_left, slice_get-append_right}
use Rattle.qtc_store.proofs.Gap.{IsFull, full_from, plain_count}
use Rattle.qtc_store.proofs.Kept.{shown_from, shown-next, shown-stop}
use Rattle.qtc_store.proofs.Meeting.{meeting_end-next, meeting_end-stop}

shown-nil : (V : Type 0) (low : ℕ) → shown_from {V = V} low [] ≡ []
unfolding shown_from
shown-nil V low = refl

pub shown_len : {V : Type 0} (low : ℕ) (batches : List (Batch V)) → All IsFull batches → low + length (shown_from low batches) ≡ meeting_end low batches
shown_len {V = V} low [] full = omega (arith, ap length (shown-nil V low))
shown_len {V = V} low (b ∷ batches) full =
    elim (cases_eq b.begin low) [
      | inl same ↦
          let rest = shown_len (end_of b) batches (All-tail (IsFull {V = V}) b batches full) in
          let whole = All-head (IsFull {V = V}) b batches full in
          let len = ap length (shown-next b batches low same) ∙ length-append b.values (shown_from (end_of b) batches) in
          let end = meeting_end-next b batches low same in
          omega (arith, rest, whole, len, end)
      | inr other ↦
          let len = ap length (shown-stop b batches low other) in
          let end = meeting_end-stop b batches low other in
          omega (arith, len, end)
    ]

batch_at : {V : Type 0} (begin : ℕ) (values ys : List V) (es : List (ℕ × V)) (i : ℕ) → i < length values → slice_get (values ++ ys) i ≡ find nat_cmp (begin + i) (enumerate_from begin values ++ es)
batch_at begin [] ys es i h = absurd (omega arith)
batch_at begin (v ∷ values) ys es i h =
    let found = find-at (begin + i) begin (v ∷ values) es v (omega arith) (omega arith) in
    let at : begin + i - begin ≡ i = omega arith in
    slice_get-append_left (v ∷ values) ys i v h ∙ sym (found ∙ ap (λ n. Some (get_or (v ∷ values) n v)) at)

pub shown_at : {V : Type 0} (low : ℕ) (batches : List (Batch V)) → All IsFull batches → (i : ℕ) → i < length (shown_from low batches) → slice_get (shown_from low batches) i ≡ find nat_cmp (low + i) (flat_map cells_of batches)
shown_at {V = V} low [] full i h = absurd (omega (arith, ap length (shown-nil V low)))
shown_at {V = V} low (b ∷ batches) full i h =
    elim (cases_eq b.begin low) [
      | inl same ↦
          let whole = All-head (IsFull {V = V}) b batches full in
          let is = shown-next b batches low same in
          let len = ap length is ∙ length-append b.values (shown_from (end_of b) batches) in
          elim (cases_lt i (length b.values)) [
            | inl within ↦
                let here : b.begin + i ≡ low + i = omega arith in
                ap (λ xs. slice_get xs i) is ∙ batch_at b.begin b.values (shown_from (end_of b) batches) (flat_map cells_of batches) i within ∙ ap (λ q. find nat_cmp q (flat_map cells_of (b ∷ batches))) here
            | inr past ↦
                let rest = shown_at (end_of b) batches (All-tail (IsFull {V = V}) b batches full) (i - length b.values) (omega (arith, len)) in
                let there : end_of b + (i - length b.values) ≡ low + i = omega (arith, whole) in
                ap (λ xs. slice_get xs i) is ∙ slice_get-append_right b.values (shown_from (end_of b) batches) i past ∙ rest ∙ ap (λ q. find nat_cmp q (flat_map cells_of batches)) there ∙ sym (find-past (low + i) b.begin b.values (flat_map cells_of batches) (omega arith))
          ]
      | inr other ↦ absurd (omega (arith, ap length (shown-stop b batches low other)))
    ]

pub first_results : {V : Type 0} (filter : Bool) (batches : List (Batch V)) → IsStore filter batches → IsFirstResults (record { filter = filter; batches = batches }) (visible batches)
unfolding shown_from
first_results true batches s = record { all = refl; each = λ i h. refl }
first_results false batches s = record {
  all = omega (arith, shown_len 0 batches (full_from batches s.whole), plain_count batches s);
  each = λ i h. shown_at 0 batches (full_from batches s.whole) i h ∙ ap (λ q. find nat_cmp q (flat_map cells_of batches)) (omega arith) ∙ sym (results_found batches i);
}

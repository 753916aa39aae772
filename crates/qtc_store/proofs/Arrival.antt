-- The map of a plain store does not depend on the order in which its batches came.
use Rattle.std.proofs.Common.{◌≡◌, ℕ, ◌+◌, ◌<◌, ◌≤◌, Bool, true, false, ◌&&◌, ◌||◌, nat_lt, cond, List, [], ◌∷◌, ◌++◌, length, fold, All, Option, Some, None, is_none, inl, inr, refl, ap, sym, ◌∙◌, subst, arith, append_assoc}
use Rattle.std.specs.List.{flat_map, enumerate_from}
use Rattle.std.specs.Ordering.{nat_cmp, eq_by_cmp}
use Rattle.std.specs.FinMap.{find, get}
use Rattle.std.proofs.lemmas.Bool.{cases_lt}
use Rattle.std.proofs.lemmas.Bool.Decides.{nat_tests}
use Rattle.std.proofs.lemmas.List.Elements.{All-head, All-tail, All-nil, All-push}
use Rattle.qtc_store.specs.declared.batch.Batch.{Batch}
use Rattle.qtc_store.specs.declared.batch.Addition.{Addition}
use Rattle.qtc_store.specs.Batches.{end_of, covers, is_covered, placed, in_order, least_covered}
use Rattle.qtc_store.specs.Results.{cells_of, results}
use Rattle.qtc_store.specs.Stored.{refusal}
use Rattle.qtc_store.specs.Adds.{batch_of, is_accepted, accepted_with, accepted_of, Fits}
use Rattle.qtc_store.proofs.Cells.{find-at, results_found}
use Rattle.qtc_store.proofs.Gap.{IsFull, found_covered, none_from}
use Rattle.qtc_store.proofs.Kept.{skip_batch, found_others}
use Rattle.qtc_store.proofs.Offers.{fold_push, is_covered-in_order}
use Rattle.qtc_store.proofs.Placed.{IsFree, free_from, all_placed, placed-before, placed-after}

-- ---- looking up in two lists
find_in_second : {V : Type 0} (q : ℕ) (xs es : List (ℕ × V)) → find nat_cmp q xs ≡ None → find nat_cmp q (xs ++ es) ≡ find nat_cmp q es
find_in_second q [] es none = refl
find_in_second q (x ∷ xs) es none =
    elim (eq_by_cmp nat_cmp q x.0) as (λ t. cond t (Some x.1) (find nat_cmp q xs) ≡ None → cond t (Some x.1) (find nat_cmp q (xs ++ es)) ≡ find nat_cmp q es) [
      | true ↦ λ e. absurd (cc)
      | false ↦ λ e. find_in_second q xs es e
    ] none

find_in_first : {V : Type 0} (q : ℕ) (xs es : List (ℕ × V)) → find nat_cmp q es ≡ None → find nat_cmp q (xs ++ es) ≡ find nat_cmp q xs
find_in_first q [] es none = none
find_in_first q (x ∷ xs) es none = ap (cond (eq_by_cmp nat_cmp q x.0) (Some x.1)) (find_in_first q xs es none)

find_here : {V : Type 0} (q begin : ℕ) (values : List V) (es fs : List (ℕ × V)) → begin ≤ q → q < begin + length values → find nat_cmp q (enumerate_from begin values ++ es) ≡ find nat_cmp q (enumerate_from begin values ++ fs)
find_here q begin [] es fs low high = absurd (omega arith)
find_here q begin (v ∷ values) es fs low high = find-at q begin (v ∷ values) es v low high ∙ sym (find-at q begin (v ∷ values) fs v low high)

-- ---- a batch that covers the index alone
bounds_from : {V : Type 0} (q : ℕ) (b : Batch V) → covers q b ≡ true → (b.begin ≤ q) × (q < end_of b)
bounds_from q b e = grind (arith, nat_tests)

or_left : (a b : Bool) → (a || b) ≡ false → a ≡ false
or_left a b h = grind arith

or_right : (a b : Bool) → (a || b) ≡ false → b ≡ false
or_right a b h = grind arith

found_here : {V : Type 0} (q : ℕ) (batches : List (Batch V)) (b : Batch V) → All IsFull batches → is_covered batches q ≡ false → IsFull b → covers q b ≡ true → find nat_cmp q (flat_map cells_of (placed batches b)) ≡ find nat_cmp q (cells_of b ++ [])
found_here q [] b full out whole inside = refl
found_here {V = V} q (first ∷ batches) b full out whole inside =
    let at = bounds_from q b inside in
    let head = All-head (IsFull {V = V}) first batches full in
    elim (cases_lt b.begin first.begin) [
      | inl before ↦ ap (λ xs. find nat_cmp q (flat_map cells_of xs)) (placed-before first batches b before) ∙ find_here q b.begin b.values (flat_map cells_of (first ∷ batches)) [] at.0 (omega (arith, at.1, whole))
      | inr after ↦
          ap (λ xs. find nat_cmp q (flat_map cells_of xs)) (placed-after first batches b after)
          ∙ skip_batch q first (flat_map cells_of (placed batches b)) (omega (arith, head)) (or_left (covers q first) (is_covered batches q) out)
          ∙ found_here q batches b (All-tail (IsFull {V = V}) first batches full) (or_right (covers q first) (is_covered batches q) out) whole inside
    ]

-- ---- accepted batches
record IsArrived {V : Type 0} (accepted : List (Batch V)) : Type 0 where
  full : All IsFull accepted
  full_in_order : All IsFull (in_order accepted)
  same : (q : ℕ) → find nat_cmp q (flat_map cells_of (in_order accepted)) ≡ find nat_cmp q (flat_map cells_of accepted)

flat_map_push : {X Y : Type 0} (f : X → List Y) (xs : List X) (x : X) → flat_map f (xs ++ x ∷ []) ≡ flat_map f xs ++ (f x ++ [])
flat_map_push f [] x = refl
flat_map_push f (y ∷ xs) x = ap (λ rest. f y ++ rest) (flat_map_push f xs x) ∙ sym (append_assoc (f y) (flat_map f xs) (f x ++ []))

arrived_same : {V : Type 0} (accepted : List (Batch V)) (b : Batch V) → IsArrived accepted → IsFull b → IsFree accepted b.begin (end_of b) → (q : ℕ) → find nat_cmp q (flat_map cells_of (placed (in_order accepted) b)) ≡ find nat_cmp q (flat_map cells_of accepted ++ (cells_of b ++ []))
arrived_same accepted b a whole f q =
    elim (covers q b) as (λ c. covers q b ≡ c → find nat_cmp q (flat_map cells_of (placed (in_order accepted) b)) ≡ find nat_cmp q (flat_map cells_of accepted ++ (cells_of b ++ []))) [
      | true ↦ λ inside.
          let at = bounds_from q b inside in
          let out = f.free q at.0 at.1 in
          found_here q (in_order accepted) b a.full_in_order (is_covered-in_order accepted q ∙ out) whole inside
          ∙ sym (find_in_second q (flat_map cells_of accepted) (cells_of b ++ []) (none_from _ (found_covered q accepted a.full ∙ out)))
      | false ↦ λ outside.
          found_others q (in_order accepted) b (omega (arith, whole)) outside
          ∙ a.same q
          ∙ sym (find_in_first q (flat_map cells_of accepted) (cells_of b ++ []) (skip_batch q b [] (omega (arith, whole)) outside))
    ] refl

arrived_push : {V : Type 0} (accepted : List (Batch V)) (b : Batch V) → IsArrived accepted → IsFull b → IsFree accepted b.begin (end_of b) → IsArrived (accepted ++ b ∷ [])
arrived_push {V = V} accepted b a whole f =
    let order = fold_push placed [] accepted b in
    record {
      full = All-push (IsFull {V = V}) accepted b a.full whole;
      full_in_order = subst (All (IsFull {V = V})) (sym order) (all_placed (IsFull {V = V}) (in_order accepted) b a.full_in_order whole);
      same = λ q. ap (λ xs. find nat_cmp q (flat_map cells_of xs)) order ∙ arrived_same accepted b a whole f q ∙ ap (find nat_cmp q) (sym (flat_map_push cells_of accepted b));
    }

free_if : (least : Option ℕ) (end : ℕ) (some : Bool) → (is_none (refusal least end) && some) ≡ true → least ≡ None
free_if None end some e = refl
free_if (Some index) end some e = absurd (cc)

arrived_with : {V : Type 0} (accepted : List (Batch V)) (addition : Addition V) → IsArrived accepted → Fits false addition → IsArrived (accepted_with accepted addition)
arrived_with accepted addition a fits =
    let b = batch_of accepted addition in
    elim (is_accepted accepted b) as (λ t. is_accepted accepted b ≡ t → IsArrived (cond t (accepted ++ b ∷ []) accepted)) [
      | true ↦ λ e. arrived_push accepted b a (fits.whole refl) (free_from accepted b.begin b.total (free_if (least_covered accepted b.begin b.total) (b.begin + b.total) (nat_lt 0 b.total) e))
      | false ↦ λ e. a
    ] refl

arrived_all : {V : Type 0} (additions : List (Addition V)) (accepted : List (Batch V)) → IsArrived accepted → All (Fits false) additions → IsArrived (fold accepted_with accepted additions)
arrived_all [] accepted a fits = a
arrived_all {V = V} (addition ∷ additions) accepted a fits =
    arrived_all additions (accepted_with accepted addition) (arrived_with accepted addition a (All-head (Fits {V = V} false) addition additions fits)) (All-tail (Fits {V = V} false) addition additions fits)

arrived_none : (V : Type 0) → IsArrived {V = V} []
arrived_none V = record { full = All-nil (IsFull {V = V}); full_in_order = All-nil (IsFull {V = V}); same = λ q. refl }

-- the map is that of the accepted batches in order of arrival
pub results_arrived : {V : Type 0} (additions : List (Addition V)) → All (Fits false) additions → (q : ℕ) → get (results (in_order (accepted_of additions))) q ≡ get (results (accepted_of additions)) q
results_arrived {V = V} additions fits q =
    let a = arrived_all additions [] (arrived_none V) fits in
    results_found (in_order (accepted_of additions)) q ∙ a.same q ∙ sym (results_found (accepted_of additions) q)

-- The batches behind a gap, by an index that lies among them.
use Rattle.std.proofs.Common.{rules, ◌≡◌, ℕ, zero, suc, ◌+◌, ◌-◌, ◌<◌, ◌≤◌, Bool, true, false, ◌||◌, nat_lt, nat_le, List, [], ◌∷◌, ◌++◌, length, map, filter, get_or, max, All, Option, Some, None, is_some, IfSome, option_copied, Bor, if◌then◌else◌, inl, inr, refl, ap, sym, ◌∙◌, subst, arith, append_assoc}
use Rattle.std.specs.List.{flat_map, last_or, slice_get, enumerate_from}
use Rattle.std.specs.Ordering.{nat_cmp}
use Rattle.std.specs.FinMap.{get}
use Rattle.std.specs.FinMap as FinMap
use Rattle.std.specs.declared.ops.Bound.TheVariants.{Included, Unbounded}
use Rattle.std.specs.BTreeMap.{insert_entry}
use Rattle.std.specs.BTreeMap.Range.{range_contains, entries_between}
use Rattle.std.proofs.lemmas.Bool.{cases_lt}
use Rattle.std.proofs.lemmas.Bool.Decides.{nat_tests}
use Rattle.std.proofs.lemmas.List.Elements.{All-head, All-tail, All-nil, All-cons, All-weaker}
use Rattle.qtc_store.specs.declared.batch.Batch.{Batch}
use Rattle.qtc_store.specs.Batches.{end_of, covers, is_covered, least_covered, greatest_end, placed, AreApart}
use Rattle.qtc_store.specs.Results.{cells_of, results}
use Rattle.qtc_store.specs.Inside.{up_to, after}
use Rattle.qtc_store.specs.Visible.{meeting}
use Rattle.qtc_store.proofs.Cells.{find-at, find-past, results_found}
use Rattle.qtc_store.proofs.Covered.{least_covered-past, least_covered-nil, hit}
use Rattle.qtc_store.proofs.Kept.{skip_batch}
use Rattle.qtc_store.proofs.Meeting.{meeting-stop}
use Rattle.qtc_store.proofs.Placed.{placed-before, placed-after}

-- ---- from the map's entries to the batches
abbrev pub Keyed : {V : Type 0} → ℕ × Batch V → Type 0
Keyed e = e.0 ≡ e.1.begin

abbrev pub batch_at : {V : Type 0} → ℕ × Batch V → Batch V
batch_at e = e.1

filter_through : {E B : Type 0} (f : E → B) (p : E → Bool) (q : B → Bool) (es : List E) → All (λ e. p e ≡ q (f e)) es → map f (filter p es) ≡ filter q (map f es)
filter_through f p q [] same = refl
filter_through f p q (e ∷ es) same =
    let here = All-head (λ x. p x ≡ q (f x)) e es same in
    let rest = filter_through f p q es (All-tail (λ x. p x ≡ q (f x)) e es same) in
    elim (q (f e)) as (λ b. q (f e) ≡ b → map f (filter p (e ∷ es)) ≡ filter q (map f (e ∷ es))) [
      | true ↦ λ is. rw (here, is) (ap (λ xs. f e ∷ xs) rest)
      | false ↦ λ is. rw (here, is) rest
    ] refl

test_up_to : (i q : ℕ) → range_contains nat_cmp Unbounded (Included i) q ≡ nat_le q i
test_up_to i q = search rules

test_after : (i q : ℕ) → range_contains nat_cmp (Included (i + 1)) Unbounded q ≡ nat_lt i q
test_after i q = search rules

pub entries_up_to : {V : Type 0} (i : ℕ) (es : List (ℕ × Batch V)) → All Keyed es → map batch_at (entries_between nat_cmp Unbounded (Included i) es) ≡ up_to i (map batch_at es)
entries_up_to {V = V} i es keyed =
    filter_through batch_at (λ e. range_contains nat_cmp Unbounded (Included i) e.0) (λ b. nat_le b.begin i) es
    (All-weaker (Keyed {V = V}) (λ e. range_contains nat_cmp Unbounded (Included i) e.0 ≡ nat_le e.1.begin i) (λ e k. test_up_to i e.0 ∙ ap (λ n. nat_le n i) k) es keyed)

pub entries_after : {V : Type 0} (i : ℕ) (es : List (ℕ × Batch V)) → All Keyed es → map batch_at (entries_between nat_cmp (Included (i + 1)) Unbounded es) ≡ after i (map batch_at es)
entries_after {V = V} i es keyed =
    filter_through batch_at (λ e. range_contains nat_cmp (Included (i + 1)) Unbounded e.0) (λ b. nat_lt i b.begin) es
    (All-weaker (Keyed {V = V}) (λ e. range_contains nat_cmp (Included (i + 1)) Unbounded e.0 ≡ nat_lt i e.1.begin) (λ e k. test_after i e.0 ∙ ap (nat_lt i) k) es keyed)

-- ---- the last of a list
pub last_or-push : {X : Type 0} (o : Option X) (xs : List X) (x : X) → last_or o (xs ++ x ∷ []) ≡ Some x
last_or-push o [] x = refl
last_or-push o (y ∷ xs) x = last_or-push (Some y) xs x

pub record EndsWith {X : Type 0} (xs : List X) (x : X) : Type 0 where
  pub front : List X
  pub is : xs ≡ front ++ x ∷ []

last_from : {X : Type 0} (first : X) (xs : List X) (x : X) → last_or (Some first) xs ≡ Some x → EndsWith (first ∷ xs) x
last_from first [] x e = record { front = []; is = let same : first ≡ x = cc in ap (λ y. y ∷ []) same }
last_from first (next ∷ xs) x e = let r = last_from next xs x e in record { front = first ∷ r.front; is = ap (λ ys. first ∷ ys) r.is }

pub ends_with : {X : Type 0} (xs : List X) (x : X) → last_or None xs ≡ Some x → EndsWith xs x
ends_with [] x e = absurd (cc)
ends_with (y ∷ xs) x e = last_from y xs x e

none_last : {X : Type 0} (first : X) (xs : List X) → last_or (Some first) xs ≡ None → [] ≡ first ∷ xs
none_last first [] e = absurd (cc)
none_last first (next ∷ xs) e = let r = none_last next xs e in absurd (cc)

pub empty_from : {X : Type 0} (xs : List X) → last_or None xs ≡ None → xs ≡ []
empty_from [] e = refl
empty_from (y ∷ xs) e = sym (none_last y xs e)

-- ---- the batches fall into two parts
keep_up_to : {V : Type 0} (i : ℕ) (b : Batch V) (batches : List (Batch V)) → b.begin ≤ i → up_to i (b ∷ batches) ≡ b ∷ up_to i batches
keep_up_to i b batches h = let is : nat_le b.begin i ≡ true = grind (arith, nat_tests) in rw is refl

drop_up_to : {V : Type 0} (i : ℕ) (b : Batch V) (batches : List (Batch V)) → i < b.begin → up_to i (b ∷ batches) ≡ up_to i batches
drop_up_to i b batches h = let is : nat_le b.begin i ≡ false = grind (arith, nat_tests) in rw is refl

keep_after : {V : Type 0} (i : ℕ) (b : Batch V) (batches : List (Batch V)) → i < b.begin → after i (b ∷ batches) ≡ b ∷ after i batches
keep_after i b batches h = let is : nat_lt i b.begin ≡ true = grind (arith, nat_tests) in rw is refl

drop_after : {V : Type 0} (i : ℕ) (b : Batch V) (batches : List (Batch V)) → b.begin ≤ i → after i (b ∷ batches) ≡ after i batches
drop_after i b batches h = let is : nat_lt i b.begin ≡ false = grind (arith, nat_tests) in rw is refl

none_up_to : {V : Type 0} (i low : ℕ) (batches : List (Batch V)) → AreApart low batches → i < low → up_to i batches ≡ []
none_up_to i low [] a h = refl
none_up_to i low (b ∷ batches) a h = drop_up_to i b batches (omega (arith, a.0)) ∙ none_up_to i (end_of b) batches a.2 (omega (arith, a.0))

all_after : {V : Type 0} (i low : ℕ) (batches : List (Batch V)) → AreApart low batches → i < low → after i batches ≡ batches
all_after i low [] a h = refl
all_after i low (b ∷ batches) a h = keep_after i b batches (omega (arith, a.0)) ∙ ap (λ xs. b ∷ xs) (all_after i (end_of b) batches a.2 (omega (arith, a.0)))

pub cut : {V : Type 0} (i low : ℕ) (batches : List (Batch V)) → AreApart low batches → batches ≡ up_to i batches ++ after i batches
cut i low [] a = refl
cut i low (b ∷ batches) a =
    elim (cases_lt i b.begin) [
      | inl later ↦
          let none = drop_up_to i b batches later ∙ none_up_to i (end_of b) batches a.2 (omega arith) in
          let all = keep_after i b batches later ∙ ap (λ xs. b ∷ xs) (all_after i (end_of b) batches a.2 (omega arith)) in
          sym all ∙ ap (λ xs. xs ++ after i (b ∷ batches)) (sym none)
      | inr here ↦
          ap (λ xs. b ∷ xs) (cut i (end_of b) batches a.2) ∙ ap (λ xs. xs ++ after i batches) (sym (keep_up_to i b batches here)) ∙ ap (λ xs. up_to i (b ∷ batches) ++ xs) (sym (drop_after i b batches here))
    ]

apart_after : {V : Type 0} (i low : ℕ) (batches : List (Batch V)) → AreApart low batches → AreApart (i + 1) (after i batches)
apart_after i low [] a = tt
apart_after i low (b ∷ batches) a =
    elim (cases_lt i b.begin) [
      | inl later ↦ rw (keep_after i b batches later) (omega arith, a.1, subst (AreApart (end_of b)) (sym (all_after i (end_of b) batches a.2 (omega arith))) a.2)
      | inr here ↦ rw (drop_after i b batches here) (apart_after i (end_of b) batches a.2)
    ]

begins_up_to : {V : Type 0} (i : ℕ) (batches : List (Batch V)) → All (λ (b : Batch V). b.begin ≤ i) (up_to i batches)
begins_up_to {V = V} i [] = All-nil (λ (b : Batch V). b.begin ≤ i)
begins_up_to {V = V} i (b ∷ batches) =
    let P : Batch V → Type 0 = λ x. x.begin ≤ i in
    elim (cases_lt i b.begin) [
      | inl later ↦ rw (drop_up_to i b batches later) (begins_up_to i batches)
      | inr here ↦ rw (keep_up_to i b batches here) (All-cons P b (up_to i batches) here (begins_up_to i batches))
    ]

-- the last batch that begins at the index or below it, with those in front of it and those after the index
pub record IsSplit {V : Type 0} (i : ℕ) (batches : List (Batch V)) (b : Batch V) : Type 0 where
  pub front : List (Batch V)
  pub is : batches ≡ front ++ b ∷ after i batches
  pub begins : b.begin ≤ i
  pub behind : AreApart (i + 1) (after i batches)

last_of_all : {V : Type 0} (i : ℕ) (front : List (Batch V)) (b : Batch V) → All (λ (x : Batch V). x.begin ≤ i) (front ++ b ∷ []) → b.begin ≤ i
last_of_all {V = V} i [] b all = All-head (λ (x : Batch V). x.begin ≤ i) b [] all
last_of_all {V = V} i (x ∷ front) b all = last_of_all i front b (All-tail (λ (y : Batch V). y.begin ≤ i) x (front ++ b ∷ []) all)

pub split_at : {V : Type 0} (i : ℕ) (batches : List (Batch V)) (b : Batch V) → AreApart 0 batches → last_or None (up_to i batches) ≡ Some b → IsSplit i batches b
split_at {V = V} i batches b a e =
    let r = ends_with (up_to i batches) b e in
    record {
      front = r.front;
      is = cut i 0 batches a ∙ ap (λ xs. xs ++ after i batches) r.is ∙ append_assoc r.front (b ∷ []) (after i batches);
      begins = last_of_all i r.front b (subst (All (λ (x : Batch V). x.begin ≤ i)) r.is (begins_up_to i batches));
      behind = apart_after i 0 batches a;
    }

pub none_split : {V : Type 0} (i : ℕ) (batches : List (Batch V)) → AreApart 0 batches → last_or None (up_to i batches) ≡ None → AreApart (i + 1) batches
none_split i batches a e =
    let all : batches ≡ after i batches = cut i 0 batches a ∙ ap (λ xs. xs ++ after i batches) (empty_from (up_to i batches) e) in
    subst (AreApart (i + 1)) (sym all) (apart_after i 0 batches a)

-- ---- what an index reads
abbrev pub IsFew : {V : Type 0} → Batch V → Type 0
IsFew b = length b.values ≤ b.total

begins_behind : {V : Type 0} (low : ℕ) (front : List (Batch V)) (b : Batch V) (rest : List (Batch V)) → AreApart low (front ++ b ∷ rest) → low ≤ b.begin
begins_behind low [] b rest a = a.0
begins_behind low (x ∷ front) b rest a = let h = begins_behind (end_of x) front b rest a.2 in omega (arith, h, a.0)

skip_front : {V : Type 0} (i low : ℕ) (front : List (Batch V)) (b : Batch V) (rest : List (Batch V)) → AreApart low (front ++ b ∷ rest) → All IsFew (front ++ b ∷ rest) → b.begin ≤ i → FinMap.find nat_cmp i (flat_map cells_of (front ++ b ∷ rest)) ≡ FinMap.find nat_cmp i (flat_map cells_of (b ∷ rest))
skip_front i low [] b rest a few h = refl
skip_front {V = V} i low (x ∷ front) b rest a few h =
    let behind = begins_behind (end_of x) front b rest a.2 in
    let out : covers i x ≡ false = grind (arith, nat_tests) in
    skip_batch i x (flat_map cells_of (front ++ b ∷ rest)) (All-head (IsFew {V = V}) x (front ++ b ∷ rest) few) out
    ∙ skip_front i (end_of x) front b rest a.2 (All-tail (IsFew {V = V}) x (front ++ b ∷ rest) few) h

none_here : {V : Type 0} (i low : ℕ) (batches : List (Batch V)) → AreApart low batches → All IsFew batches → i < low → FinMap.find nat_cmp i (flat_map cells_of batches) ≡ None
none_here i low [] a few h = refl
none_here {V = V} i low (b ∷ batches) a few h =
    let out : covers i b ≡ false = grind (arith, nat_tests, a.0) in
    skip_batch i b (flat_map cells_of batches) (All-head (IsFew {V = V}) b batches few) out ∙ none_here i (end_of b) batches a.2 (All-tail (IsFew {V = V}) b batches few) (omega (arith, a.0))

pub slice_get-is : {X : Type 0} (xs : List X) (k : ℕ) (d : X) → k < length xs → slice_get xs k ≡ Some (get_or xs k d)
slice_get-is [] k d h = absurd (omega arith)
slice_get-is (x ∷ xs) zero d h = refl
slice_get-is (x ∷ xs) (suc k) d h = slice_get-is xs k d (omega arith)

pub slice_get-past : {X : Type 0} (xs : List X) (k : ℕ) → length xs ≤ k → slice_get xs k ≡ None
slice_get-past [] k h = refl
slice_get-past (x ∷ xs) zero h = absurd (omega arith)
slice_get-past (x ∷ xs) (suc k) h = slice_get-past xs k (omega arith)

read_batch : {V : Type 0} (i begin : ℕ) (values : List V) (es : List (ℕ × V)) → begin ≤ i → FinMap.find nat_cmp i es ≡ None → FinMap.find nat_cmp i (enumerate_from begin values ++ es) ≡ slice_get values (i - begin)
read_batch i begin [] es h none = none
read_batch i begin (v ∷ values) es h none =
    elim (cases_lt i (begin + length (v ∷ values))) [
      | inl within ↦ find-at i begin (v ∷ values) es v h within ∙ sym (slice_get-is (v ∷ values) (i - begin) v (omega arith))
      | inr past ↦ find-past i begin (v ∷ values) es past ∙ none ∙ sym (slice_get-past (v ∷ values) (i - begin) (omega arith))
    ]

few_behind : {V : Type 0} (front rest : List (Batch V)) → All IsFew (front ++ rest) → All IsFew rest
few_behind [] rest few = few
few_behind {V = V} (x ∷ front) rest few = few_behind front rest (All-tail (IsFew {V = V}) x (front ++ rest) few)

module _ {V : Type 0} (i : ℕ) (batches : List (Batch V)) (b : Batch V) (s : IsSplit i batches b) (a : AreApart 0 batches) where
  -- the value at the index is the batch's
  pub value_in_split : All IsFew batches → get (results batches) i ≡ slice_get b.values (i - b.begin)
  value_in_split few =
      let apart = subst (AreApart 0) s.is a in
      let all = subst (All (IsFew {V = V})) s.is few in
      let rest = few_behind (s.front ++ b ∷ []) (after i batches) (subst (All (IsFew {V = V})) (sym (append_assoc s.front (b ∷ []) (after i batches))) all) in
      results_found batches i
      ∙ ap (λ xs. FinMap.find nat_cmp i (flat_map cells_of xs)) s.is
      ∙ skip_front i 0 s.front b (after i batches) apart all s.begins
      ∙ read_batch i b.begin b.values (flat_map cells_of (after i batches)) s.begins (none_here i (i + 1) (after i batches) s.behind rest (omega arith))

pub value_in_none : {V : Type 0} (i : ℕ) (batches : List (Batch V)) → AreApart (i + 1) batches → All IsFew batches → get (results batches) i ≡ None
value_in_none i batches a few = results_found batches i ∙ none_here i (i + 1) batches a few (omega arith)

-- ---- whether an index is covered
none_covers : {V : Type 0} (i low : ℕ) (batches : List (Batch V)) → AreApart low batches → i < low → is_covered batches i ≡ false
none_covers i low [] a h = refl
none_covers i low (b ∷ batches) a h =
    let out : covers i b ≡ false = grind (arith, nat_tests, a.0) in
    let rest = none_covers i (end_of b) batches a.2 (omega (arith, a.0)) in
    rw (out, rest) refl

or_none : (a : Bool) → (a || false) ≡ a
or_none a = grind arith

skip_covers : {V : Type 0} (i low : ℕ) (front : List (Batch V)) (b : Batch V) (rest : List (Batch V)) → AreApart low (front ++ b ∷ rest) → b.begin ≤ i → is_covered (front ++ b ∷ rest) i ≡ is_covered (b ∷ rest) i
skip_covers i low [] b rest a h = refl
skip_covers i low (x ∷ front) b rest a h =
    let behind = begins_behind (end_of x) front b rest a.2 in
    let out : covers i x ≡ false = grind (arith, nat_tests) in
    ap (λ c. c || is_covered (front ++ b ∷ rest) i) out ∙ skip_covers i (end_of x) front b rest a.2 h

pub covered_in_split : {V : Type 0} (i : ℕ) (batches : List (Batch V)) (b : Batch V) → IsSplit i batches b → AreApart 0 batches → is_covered batches i ≡ nat_lt i (end_of b)
covered_in_split i batches b s a =
    let begins = s.begins in
    let inside : covers i b ≡ nat_lt i (end_of b) = grind (arith, nat_tests) in
    ap (λ xs. is_covered xs i) s.is
    ∙ skip_covers i 0 s.front b (after i batches) (subst (AreApart 0) s.is a) s.begins
    ∙ ap (λ c. covers i b || c) (none_covers i (i + 1) (after i batches) s.behind (omega arith))
    ∙ or_none (covers i b)
    ∙ inside

pub covered_in_none : {V : Type 0} (i : ℕ) (batches : List (Batch V)) → AreApart (i + 1) batches → is_covered batches i ≡ false
covered_in_none i batches a = none_covers i (i + 1) batches a (omega arith)

-- ---- the least covered index from an index on
pub least_here : {V : Type 0} (batches : List (Batch V)) (begin total : ℕ) → is_covered batches begin ≡ true → 0 < total → least_covered batches begin total ≡ Some begin
least_here batches begin zero is some = absurd (omega arith)
least_here batches begin (suc total) is some = rw is refl

skip_least : {V : Type 0} (begin total low : ℕ) (batches : List (Batch V)) → AreApart low batches → is_covered batches begin ≡ false → least_covered batches begin total ≡ least_covered (after begin batches) begin total
skip_least begin total low [] a out = refl
skip_least begin total low (b ∷ batches) a out =
    elim (cases_lt begin b.begin) [
      | inl later ↦ ap (λ xs. least_covered xs begin total) (sym (keep_after begin b batches later ∙ ap (λ xs. b ∷ xs) (all_after begin (end_of b) batches a.2 (omega arith))))
      | inr here ↦
          let past : end_of b ≤ begin = elim (cases_lt begin (end_of b)) [
            | inl within ↦ absurd (let inside : covers begin b ≡ true = grind (arith, nat_tests) in let c = rw inside at out in cc)
            | inr past ↦ past
          ] in
          let none : covers begin b ≡ false = grind (arith, nat_tests) in
          least_covered-past b batches begin total past ∙ skip_least begin total (end_of b) batches a.2 (rw none at out) ∙ ap (λ xs. least_covered xs begin total) (sym (drop_after begin b batches here))
    ]

abbrev first_from : {V : Type 0} → List (Batch V) → ℕ → Option ℕ
first_from [] end = None
first_from (b ∷ batches) end = if nat_lt b.begin end then Some b.begin else None

least_of : {V : Type 0} (begin total : ℕ) (batches : List (Batch V)) → AreApart (begin + 1) batches → least_covered batches begin total ≡ first_from batches (begin + total)
least_of {V = V} begin total [] a = least_covered-nil V begin total
least_of begin total (b ∷ batches) a =
    let same : max b.begin begin ≡ b.begin = omega (arith, a.0) in
    hit b batches (begin + 1) begin total a (omega (arith, a.0, a.1)) ∙ ap (λ n. if nat_lt n (begin + total) then Some n else None) same

pub least_after : {V : Type 0} (batches : List (Batch V)) (begin total : ℕ) → AreApart 0 batches → is_covered batches begin ≡ false → least_covered batches begin total ≡ first_from (after begin batches) (begin + total)
least_after batches begin total a out = skip_least begin total 0 batches a out ∙ least_of begin total (after begin batches) (apart_after begin 0 batches a)

first_read : {V : Type 0} (xs : List (Batch V)) (end : ℕ) (b : Batch V) → slice_get xs 0 ≡ Some b → first_from xs end ≡ (if nat_lt b.begin end then Some b.begin else None)
first_read [] end b e = absurd (cc)
first_read (x ∷ xs) end b e = let same : x ≡ b = cc in ap (λ (y : Batch _). if nat_lt y.begin end then Some y.begin else None) same

first_none : {V : Type 0} (xs : List (Batch V)) (end : ℕ) → slice_get xs 0 ≡ None → first_from xs end ≡ None
first_none [] end e = refl
first_none (x ∷ xs) end e = absurd (cc)

module _ {V : Type 0} (xs : List (Batch V)) (end : ℕ) where
  first_within : (b : Batch V) → slice_get xs 0 ≡ Some b → b.begin < end → first_from xs end ≡ Some b.begin
  first_within b e less =
      first_read xs end b e ∙ (let is : nat_lt b.begin end ≡ true = grind (arith, nat_tests) in rw is refl)

  first_past : (b : Batch V) → slice_get xs 0 ≡ Some b → end ≤ b.begin → first_from xs end ≡ None
  first_past b e past =
      first_read xs end b e ∙ (let is : nat_lt b.begin end ≡ false = grind (arith, nat_tests) in rw is refl)

-- the batch after `begin`, where `begin` is not covered
module _ {V : Type 0} (batches : List (Batch V)) (begin total : ℕ) (a : AreApart 0 batches) (out : is_covered batches begin ≡ false) where
  pub least_within : (b : Batch V) → slice_get (after begin batches) 0 ≡ Some b → b.begin < begin + total → least_covered batches begin total ≡ Some b.begin
  least_within b e less = least_after batches begin total a out ∙ first_within (after begin batches) (begin + total) b e less

  pub least_past : (b : Batch V) → slice_get (after begin batches) 0 ≡ Some b → begin + total ≤ b.begin → least_covered batches begin total ≡ None
  least_past b e past = least_after batches begin total a out ∙ first_past (after begin batches) (begin + total) b e past

  pub least_none : slice_get (after begin batches) 0 ≡ None → least_covered batches begin total ≡ None
  least_none e = least_after batches begin total a out ∙ first_none (after begin batches) (begin + total) e

-- ---- a batch at its begin
-- the batch's begin is not yet a key, since a batch that begins there would not lie apart from it
entries_before : {V : Type 0} (e : ℕ × Batch V) (es : List (ℕ × Batch V)) (b : Batch V) → b.begin < e.0 → insert_entry nat_cmp (e ∷ es) b.begin b ≡ (b.begin, b) ∷ e ∷ es
entries_before e es b h = search rules

entries_behind : {V : Type 0} (e : ℕ × Batch V) (es : List (ℕ × Batch V)) (b : Batch V) → e.0 < b.begin → insert_entry nat_cmp (e ∷ es) b.begin b ≡ e ∷ insert_entry nat_cmp es b.begin b
entries_behind e es b h = search rules

apart_begins : {V : Type 0} (low : ℕ) (first : Batch V) (batches : List (Batch V)) (b : Batch V) → AreApart low (first ∷ placed batches b) → first.begin < b.begin
apart_begins low first [] b a = omega (arith, a.1, a.2.0)
apart_begins low first (next ∷ batches) b a =
    elim (cases_lt b.begin next.begin) [
      | inl before ↦ let a' = rw (placed-before next batches b before) at a in omega (arith, a'.1, a'.2.0)
      | inr after ↦ let a' = rw (placed-after next batches b after) at a in omega (arith, after, a'.1, a'.2.0)
    ]

record Put {V : Type 0} (es : List (ℕ × Batch V)) (b : Batch V) : Type 0 where
  same : map batch_at (insert_entry nat_cmp es b.begin b) ≡ placed (map batch_at es) b
  keyed : All Keyed (insert_entry nat_cmp es b.begin b)

put_entry : {V : Type 0} (es : List (ℕ × Batch V)) (b : Batch V) (low : ℕ) → All Keyed es → AreApart low (placed (map batch_at es) b) → Put es b
put_entry {V = V} [] b low keyed a = record { same = refl; keyed = All-cons (Keyed {V = V}) (b.begin, b) [] refl (All-nil (Keyed {V = V})) }
put_entry {V = V} (e ∷ es) b low keyed a =
    let at = All-head (Keyed {V = V}) e es keyed in
    let rest = All-tail (Keyed {V = V}) e es keyed in
    elim (cases_lt b.begin e.1.begin) [
      | inl before ↦
          let is = entries_before e es b (omega (arith, at, before)) in
          record {
            same = ap (map batch_at) is ∙ sym (placed-before e.1 (map batch_at es) b before);
            keyed = subst (All (Keyed {V = V})) (sym is) (All-cons (Keyed {V = V}) (b.begin, b) (e ∷ es) refl keyed);
          }
      | inr after ↦
          let a' = rw (placed-after e.1 (map batch_at es) b after) at a in
          let is = entries_behind e es b (omega (arith, at, apart_begins low e.1 (map batch_at es) b a')) in
          let r = put_entry es b (end_of e.1) rest a'.2 in
          record {
            same = ap (map batch_at) is ∙ ap (λ xs. e.1 ∷ xs) r.same ∙ sym (placed-after e.1 (map batch_at es) b after);
            keyed = subst (All (Keyed {V = V})) (sym is) (All-cons (Keyed {V = V}) e (insert_entry nat_cmp es b.begin b) at r.keyed);
          }
    ]

module _ {V : Type 0} (es : List (ℕ × Batch V)) (b : Batch V) (keyed : All Keyed es) (a : AreApart 0 (placed (map batch_at es) b)) where
  pub entries_placed : map batch_at (insert_entry nat_cmp es b.begin b) ≡ placed (map batch_at es) b
  entries_placed = (put_entry es b 0 keyed a).same

  pub entries_keyed : All Keyed (insert_entry nat_cmp es b.begin b)
  entries_keyed = (put_entry es b 0 keyed a).keyed

-- ---- a bound for the batch that was found
end_within : {V : Type 0} (front : List (Batch V)) (b : Batch V) (rest : List (Batch V)) → end_of b ≤ greatest_end (front ++ b ∷ rest)
end_within [] b rest = omega arith
end_within (x ∷ front) b rest = omega (arith, end_within front b rest)

pub end_in_split : {V : Type 0} (i : ℕ) (batches : List (Batch V)) (b : Batch V) → IsSplit i batches b → end_of b ≤ greatest_end batches
end_in_split i batches b s = subst (λ xs. end_of b ≤ greatest_end xs) (sym s.is) (end_within s.front b (after i batches))

-- ---- the first entry
pub first_elsewhere : {V : Type 0} (place : ℕ) (es : List (ℕ × Batch V)) (k : ℕ) (b : Batch V) → All Keyed es → slice_get es 0 ≡ Some (k, b) → ¬ (k ≡ place) → meeting place (map batch_at es) ≡ []
first_elsewhere place [] k b keyed e other = refl
first_elsewhere {V = V} place (first ∷ es) k b keyed e other =
    let at = All-head (Keyed {V = V}) first es keyed in
    let same : first ≡ (k, b) = cc in
    let key : first.0 ≡ k = ap (λ x. x.0) same in
    meeting-stop first.1 (map batch_at es) place (λ is. other (sym key ∙ at ∙ is))

pub first_at : {V : Type 0} (place : ℕ) (es rest : List (ℕ × Batch V)) (p : ℕ × Batch V) (k : ℕ) (b : Batch V) → All Keyed es → slice_get es 0 ≡ Some (k, b) → es ≡ p ∷ rest → k ≡ place → p.1.begin ≡ place
first_at {V = V} place es rest p k b keyed e is same =
    let at = All-head (Keyed {V = V}) p rest (subst (All (Keyed {V = V})) is keyed) in
    let found : Some p ≡ Some (k, b) = sym (ap (λ xs. slice_get xs 0) is) ∙ e in
    let one : p ≡ (k, b) = cc in
    sym at ∙ ap (λ x. x.0) one ∙ same

-- ---- the last entry of a range
map_push : {E B : Type 0} (f : E → B) (xs : List E) (x : E) → map f (xs ++ x ∷ []) ≡ map f xs ++ f x ∷ []
map_push f [] x = refl
map_push f (y ∷ xs) x = ap (λ ys. f y ∷ ys) (map_push f xs x)

pub last_entry : {V : Type 0} (i : ℕ) (es front : List (ℕ × Batch V)) (e : ℕ × Batch V) → All Keyed es → entries_between nat_cmp Unbounded (Included i) es ≡ front ++ e ∷ [] → Some e.1 ≡ last_or None (up_to i (map batch_at es))
last_entry i es front e keyed is =
    sym (ap (last_or None) (sym (entries_up_to i es keyed) ∙ ap (map batch_at) is ∙ map_push batch_at front e) ∙ last_or-push None (map batch_at front) e.1)

-- ---- a value that `get` found
pub value_read : {X : Type 0} (xs : List X) (k : ℕ) (r : Option (Bor X)) → is_some r ≡ nat_lt k (length xs) → IfSome r (λ x. x.now ≡ get_or xs k x.now) → option_copied r ≡ slice_get xs k
value_read xs k None some is =
    sym (slice_get-past xs k (elim (cases_lt k (length xs)) [
      | inl less ↦ absurd (let in_range : nat_lt k (length xs) ≡ true = grind (arith, nat_tests) in let f = rw in_range at some in cc)
      | inr past ↦ past
    ]))
value_read xs k (Some x) some is =
    elim (cases_lt k (length xs)) [
      | inl less ↦ ap Some is ∙ sym (slice_get-is xs k x.now less)
      | inr past ↦ absurd (let out : nat_lt k (length xs) ≡ false = grind (arith, nat_tests) in let f = rw out at some in cc)
    ]

-- What a store's parts say of its batches.
use Rattle.std.proofs.Common.{◌≡◌, ◌≢◌, ℕ, zero, suc, ◌<◌, ◌≤◌, max, Bool, true, false, List, [], ◌∷◌, ◌++◌, length, All, Some, None, IsSome, inl, inr, refl, ap, sym, ◌∙◌, subst, arith, append_assoc}
use Rattle.std.specs.List.{flat_map, slice_get}
use Rattle.std.specs.Ordering.{nat_cmp}
use Rattle.std.specs.FinMap.{find, get}
use Rattle.std.proofs.lemmas.Bool.{cases_lt, cases_eq, false≢true, ne_eqb}
use Rattle.std.proofs.lemmas.Bool.Decides.{nat_tests}
use Rattle.std.proofs.lemmas.List.{append-nil}
use Rattle.std.proofs.lemmas.List.Elements.{All-head, All-tail, All-weaker}
use Rattle.qtc_store.specs.declared.batch.Batch.{Batch}
use Rattle.qtc_store.specs.declared.front.Front.{Front}
use Rattle.qtc_store.specs.declared.pending.Pending.{Pending}
use Rattle.qtc_store.specs.Batches.{end_of, values_of, covers, least_covered, greatest_end, placed, AreApart, IsWhole}
use Rattle.qtc_store.specs.Results.{cells_of, results, result_ranges}
use Rattle.qtc_store.specs.Visible.{meeting, meeting_end, visible, position_ranges}
use Rattle.qtc_store.specs.Stored.{Stored, IsStore, IsFirstGap, IsFirstResults, AreRangesOf, KeepsResults, NothingRefuses, count_of, value_at, ranges_of, with_batch}
use Rattle.qtc_store.specs.Inside.{met_in, waiting_in, batches_in, AreMet, IsFront, IsKeyed, IsLaid}
use Rattle.qtc_store.proofs.Cells.{results_found}
use Rattle.qtc_store.proofs.Covered.{apart_lower, least_covered-past, least_covered-nil}
use Rattle.qtc_store.proofs.First.{first_results, shown_len, shown_at}
use Rattle.qtc_store.proofs.FrontLemmas.{met_append, met_end_append}
use Rattle.qtc_store.proofs.Gap.{full_from, plain_count, plain_gap, meeting_covered, meeting_end-low}
use Rattle.qtc_store.proofs.Kept.{skip_batch, shown_from, kept_by_mode}
use Rattle.qtc_store.proofs.Meeting.{meeting-next, meeting-stop, meeting_end-next, meeting_end-stop}
use Rattle.qtc_store.proofs.PendingLemmas.{IsFew, least_here, slice_get-past}
use Rattle.qtc_store.proofs.Placed.{IsFree, free_from, placed-before, placed-after, greatest_end-placed, store_placed}
use Rattle.qtc_store.proofs.RangeLemmas.{ranges_told}
use Rattle.qtc_store.proofs.Refused.{unrefused_free, unrefused_within}

-- ---- two parts of a list of batches
no_more : {V : Type 0} (place : ℕ) (ys : List (Batch V)) → meeting place ys ≡ [] → meeting_end place ys ≡ place
no_more place [] e = refl
no_more place (y ∷ ys) e =
    elim (cases_eq y.begin place) [
      | inl same ↦ let more = sym (meeting-next y ys place same) ∙ e in absurd (cc)
      | inr other ↦ meeting_end-stop y ys place other
    ]

apart_behind : {V : Type 0} (low : ℕ) (xs ys : List (Batch V)) → AreMet low xs → AreApart low (xs ++ ys) → AreApart (meeting_end low xs) ys
apart_behind low [] ys m a = a
apart_behind low (x ∷ xs) ys m a = subst (λ n. AreApart n ys) (sym (meeting_end-next x xs low m.0)) (apart_behind (end_of x) xs ys m.1 a.2)

placed_behind : {V : Type 0} (low : ℕ) (xs ys : List (Batch V)) (b : Batch V) → AreMet low xs → meeting_end low xs ≤ b.begin → placed (xs ++ ys) b ≡ xs ++ placed ys b
placed_behind low [] ys b m h = refl
placed_behind low (x ∷ xs) ys b m h =
    let next = meeting_end-next x xs low m.0 in
    let above = meeting_end-low (end_of x) xs in
    placed-after x (xs ++ ys) b (omega (arith, h, next, above)) ∙ ap (λ zs. x ∷ zs) (placed_behind (end_of x) xs ys b m.1 (omega (arith, h, next)))

placed_first : {V : Type 0} (place : ℕ) (ys : List (Batch V)) (b : Batch V) → AreApart place ys → meeting place ys ≡ [] → b.begin ≡ place → placed ys b ≡ b ∷ ys
placed_first place [] b a gap e = refl
placed_first place (y ∷ ys) b a gap e =
    elim (cases_eq y.begin place) [
      | inl same ↦ let more = sym (meeting-next y ys place same) ∙ gap in absurd (cc)
      | inr other ↦ placed-before y ys b (omega (arith, a.0))
    ]

gap_placed : {V : Type 0} (place : ℕ) (ys : List (Batch V)) (b : Batch V) → meeting place ys ≡ [] → b.begin ≢ place → meeting place (placed ys b) ≡ []
gap_placed place [] b gap other = meeting-stop b [] place other
gap_placed place (y ∷ ys) b gap other =
    elim (cases_lt b.begin y.begin) [
      | inl before ↦ ap (meeting place) (placed-before y ys b before) ∙ meeting-stop b (y ∷ ys) place other
      | inr after ↦ elim (cases_eq y.begin place) [
        | inl same ↦ let more = sym (meeting-next y ys place same) ∙ gap in absurd (cc)
        | inr elsewhere ↦ ap (meeting place) (placed-after y ys b after) ∙ meeting-stop y (placed ys b) place elsewhere
      ]
    ]

skip_cells : {V : Type 0} (i low : ℕ) (xs ys : List (Batch V)) → AreMet low xs → All IsFew (xs ++ ys) → meeting_end low xs ≤ i → find nat_cmp i (flat_map cells_of (xs ++ ys)) ≡ find nat_cmp i (flat_map cells_of ys)
skip_cells i low [] ys m few h = refl
skip_cells {V = V} i low (x ∷ xs) ys m few h =
    let next = meeting_end-next x xs low m.0 in
    let above = meeting_end-low (end_of x) xs in
    let past : end_of x ≤ i = omega (arith, h, next, above) in
    let out : covers i x ≡ false = grind (arith, nat_tests) in
    skip_batch i x (flat_map cells_of (xs ++ ys)) (All-head (IsFew {V = V}) x (xs ++ ys) few) out
    ∙ skip_cells i (end_of x) xs ys m.1 (All-tail (IsFew {V = V}) x (xs ++ ys) few) (omega (arith, h, next))

skip_least : {V : Type 0} (begin total low : ℕ) (xs ys : List (Batch V)) → AreMet low xs → meeting_end low xs ≤ begin → least_covered (xs ++ ys) begin total ≡ least_covered ys begin total
skip_least begin total low [] ys m h = refl
skip_least begin total low (x ∷ xs) ys m h =
    let next = meeting_end-next x xs low m.0 in
    let above = meeting_end-low (end_of x) xs in
    least_covered-past x (xs ++ ys) begin total (omega (arith, h, next, above)) ∙ skip_least begin total (end_of x) xs ys m.1 (omega (arith, h, next))

none_past : {V : Type 0} (begin total : ℕ) (batches : List (Batch V)) → greatest_end batches ≤ begin → least_covered batches begin total ≡ None
none_past {V = V} begin total [] h = least_covered-nil V begin total
none_past begin total (b ∷ batches) h = least_covered-past b batches begin total (omega arith) ∙ none_past begin total batches (omega arith)

greatest_back : {V : Type 0} (xs ys : List (Batch V)) → greatest_end ys ≤ greatest_end (xs ++ ys)
greatest_back [] ys = omega arith
greatest_back (x ∷ xs) ys = omega (arith, greatest_back xs ys)

all_back : {V : Type 0} (P : Batch V → Type 0) (xs ys : List (Batch V)) → All P (xs ++ ys) → All P ys
all_back P [] ys all = all
all_back P (x ∷ xs) ys all = all_back P xs ys (All-tail P x (xs ++ ys) all)

ranges_append : {V : Type 0} (xs ys : List (Batch V)) → result_ranges (xs ++ ys) ≡ result_ranges xs ++ result_ranges ys
ranges_append [] ys = refl
ranges_append (x ∷ xs) ys = ap (λ zs. (x.begin, end_of x) ∷ zs) (ranges_append xs ys)

-- ---- a store
module _ {V : Type 0} (f : Bool) (front : Front V) (pending : Pending V) (end : ℕ) (s : IsLaid f front pending end) where
  shown : meeting 0 (batches_in front pending) ≡ met_in front
  shown =
      met_append 0 (met_in front) (waiting_in pending) s.met.met
      ∙ ap (λ zs. met_in front ++ zs) (ap (λ n. meeting n (waiting_in pending)) (sym s.met.place) ∙ s.gap)
      ∙ append-nil (met_in front)

  pub visible_met : visible (batches_in front pending) ≡ flat_map values_of (met_in front)
  visible_met = ap (flat_map values_of) shown

  pub place_is : meeting_end 0 (batches_in front pending) ≡ front.place
  place_is =
      met_end_append 0 (met_in front) (waiting_in pending) s.met.met
      ∙ ap (λ n. meeting_end n (waiting_in pending)) (sym s.met.place)
      ∙ no_more front.place (waiting_in pending) s.gap

  pub few_all : All IsFew (batches_in front pending)
  few_all = All-weaker (IsWhole {V = V} f) (IsFew {V = V}) (λ b w. w.few) (batches_in front pending) s.store.whole

  pub waiting_few : All IsFew (waiting_in pending)
  waiting_few = all_back (IsFew {V = V}) (met_in front) (waiting_in pending) few_all

  pub waiting_apart : AreApart 0 (waiting_in pending)
  waiting_apart = apart_lower 0 (meeting_end 0 (met_in front)) (waiting_in pending) (omega arith) (apart_behind 0 (met_in front) (waiting_in pending) s.met.met s.store.apart)

  pub waiting_within : greatest_end (waiting_in pending) ≤ 8388608
  waiting_within = omega (arith, greatest_back (met_in front) (waiting_in pending), s.store.bounded)

  pub least_past_end : (begin total : ℕ) → end ≤ begin → least_covered (batches_in front pending) begin total ≡ None
  least_past_end begin total h = none_past begin total (batches_in front pending) (omega (arith, s.last))

  pub least_met : (begin total : ℕ) → begin < front.place → 0 < total → least_covered (batches_in front pending) begin total ≡ Some begin
  least_met begin total h some = least_here (batches_in front pending) begin total (meeting_covered 0 begin (batches_in front pending) (omega arith) (omega (arith, place_is))) some

  pub least_waiting : (begin total : ℕ) → front.place ≤ begin → least_covered (batches_in front pending) begin total ≡ least_covered (waiting_in pending) begin total
  least_waiting begin total h = skip_least begin total 0 (met_in front) (waiting_in pending) s.met.met (omega (arith, s.met.place))

-- ---- the count
some_below : {V : Type 0} (vs : List V) (i : ℕ) → i < length vs → IsSome (slice_get vs i)
some_below [] i h = absurd (omega arith)
some_below (v ∷ vs) zero h = refl
some_below (v ∷ vs) (suc i) h = some_below vs i (omega arith)

filter_gap : {V : Type 0} (batches : List (Batch V)) → IsFirstGap (record { filter = true; batches = batches }) (length (visible batches))
filter_gap batches = record {
  below = λ index less. some_below (visible batches) index less;
  gap = slice_get-past (visible batches) (length (visible batches)) (omega arith);
}

record Counts {V : Type 0} (f : Bool) (batches : List (Batch V)) (count : ℕ) : Type 0 where
  is : count ≡ count_of (record { filter = f; batches = batches })
  gap : IsFirstGap (record { filter = f; batches = batches }) count

counts : {V : Type 0} (f : Bool) (front : Front V) (pending : Pending V) (end : ℕ) → IsLaid f front pending end → Counts f (batches_in front pending) front.count
unfolding shown_from
counts true front pending end s =
    let is = s.met.count ∙ ap length (sym (visible_met true front pending end s)) in
    record {
      is = is;
      gap = subst (IsFirstGap (record { filter = true; batches = batches_in front pending })) (sym is) (filter_gap (batches_in front pending));
    }
counts false front pending end s =
    let batches = batches_in front pending in
    let len = shown_len 0 batches (full_from batches s.store.whole) in
    let same : front.count ≡ meeting_end 0 batches = omega (arith, s.met.count, ap length (visible_met false front pending end s), len) in
    record {
      is = same ∙ sym (plain_count batches s.store);
      gap = subst (IsFirstGap (record { filter = false; batches = batches })) (sym same) (plain_gap batches s.store);
    }

-- ---- what a number reads
value_met : {V : Type 0} (f : Bool) (front : Front V) (pending : Pending V) (end index : ℕ) → IsLaid f front pending end → index < front.count → slice_get (flat_map values_of (met_in front)) index ≡ value_at (record { filter = f; batches = batches_in front pending }) index
unfolding shown_from
value_met true front pending end index s h = ap (λ vs. slice_get vs index) (sym (visible_met true front pending end s))
value_met false front pending end index s h =
    let batches = batches_in front pending in
    let same = visible_met false front pending end s in
    ap (λ vs. slice_get vs index) (sym same)
    ∙ shown_at 0 batches (full_from batches s.store.whole) index (omega (arith, s.met.count, ap length same))
    ∙ ap (λ q. find nat_cmp q (flat_map cells_of batches)) (omega arith)
    ∙ sym (results_found batches index)

module _ {V : Type 0} (front : Front V) (pending : Pending V) (end index : ℕ) (h : front.count ≤ index) where
  value_none : IsLaid true front pending end → None ≡ value_at (record { filter = true; batches = batches_in front pending }) index
  value_none s = sym (slice_get-past (visible (batches_in front pending)) index (omega (arith, s.met.count, ap length (visible_met true front pending end s))))

  value_waiting : IsLaid false front pending end → get (results (waiting_in pending)) index ≡ value_at (record { filter = false; batches = batches_in front pending }) index
  value_waiting s =
      let count = (counts false front pending end s).is ∙ plain_count (batches_in front pending) s.store ∙ place_is false front pending end s in
      results_found (waiting_in pending) index
      ∙ sym (skip_cells index 0 (met_in front) (waiting_in pending) s.met.met (few_all false front pending end s) (omega (arith, count, s.met.place)))
      ∙ sym (results_found (batches_in front pending) index)

-- ---- what a store tells, its view being given
module _ {V : Type 0} (f : Bool) (front : Front V) (pending : Pending V) (end : ℕ) (s : IsLaid f front pending end) where
  pub count_told : front.count ≡ count_of (record { filter = f; batches = batches_in front pending })
  count_told = (counts f front pending end s).is

  pub gap_told : IsFirstGap (record { filter = f; batches = batches_in front pending }) front.count
  gap_told = (counts f front pending end s).gap

  pub value_told : (index : ℕ) → index < front.count → slice_get (flat_map values_of (met_in front)) index ≡ value_at (record { filter = f; batches = batches_in front pending }) index
  value_told index h = value_met f front pending end index s h

  pub none_told : (index : ℕ) → front.count ≤ index → f ≡ true → None ≡ value_at (record { filter = f; batches = batches_in front pending }) index
  none_told index h e = subst (λ b. IsLaid b front pending end → None ≡ value_at (record { filter = b; batches = batches_in front pending }) index) (sym e) (value_none front pending end index h) s

  pub waiting_told : (index : ℕ) → front.count ≤ index → f ≡ false → get (results (waiting_in pending)) index ≡ value_at (record { filter = f; batches = batches_in front pending }) index
  waiting_told index h e = subst (λ b. IsLaid b front pending end → get (results (waiting_in pending)) index ≡ value_at (record { filter = b; batches = batches_in front pending }) index) (sym e) (value_waiting front pending end index h) s

  pub results_told : IsFirstResults (record { filter = f; batches = batches_in front pending }) (flat_map values_of (met_in front))
  results_told = subst (IsFirstResults (record { filter = f; batches = batches_in front pending })) (visible_met f front pending end s) (first_results f (batches_in front pending) s.store)

  pub positions_told : f ≡ true → position_ranges 0 (met_in front) ≡ ranges_of (record { filter = f; batches = batches_in front pending })
  positions_told e = ap (position_ranges 0) (sym (shown f front pending end s)) ∙ ap (λ b. ranges_of (record { filter = b; batches = batches_in front pending })) (sym e)

  pub ranges_of_both : f ≡ false → result_ranges (met_in front) ++ result_ranges (waiting_in pending) ≡ ranges_of (record { filter = f; batches = batches_in front pending })
  ranges_of_both e = sym (ranges_append (met_in front) (waiting_in pending)) ∙ ap (λ b. ranges_of (record { filter = b; batches = batches_in front pending })) (sym e)

  pub ranges_just : AreRangesOf (record { filter = f; batches = batches_in front pending }) (ranges_of (record { filter = f; batches = batches_in front pending }))
  ranges_just = ranges_told f (batches_in front pending) s.store

-- ---- a batch that is put in
module _ {V : Type 0} (f : Bool) (front : Front V) (pending : Pending V) (end : ℕ) (s : IsLaid f front pending end) (b : Batch V) (some : 0 < b.total) (free : IsFree (batches_in front pending) b.begin (end_of b)) where
  pub begins_behind : front.place ≤ b.begin
  begins_behind = elim (cases_lt b.begin front.place) [
    | inl before ↦
        let covered = meeting_covered 0 b.begin (batches_in front pending) (omega arith) (omega (arith, before, place_is f front pending end s)) in
        absurd (false≢true (sym (free.free b.begin (omega arith) (omega arith)) ∙ covered))
    | inr after ↦ after
  ]

  pub put_behind : placed (batches_in front pending) b ≡ met_in front ++ placed (waiting_in pending) b
  put_behind = placed_behind 0 (met_in front) (waiting_in pending) b s.met.met (omega (arith, begins_behind, s.met.place))

  pub put_first : b.begin ≡ front.place → placed (batches_in front pending) b ≡ met_in front ++ b ∷ waiting_in pending
  put_first e =
      let apart = subst (λ n. AreApart n (waiting_in pending)) (sym s.met.place) (apart_behind 0 (met_in front) (waiting_in pending) s.met.met s.store.apart) in
      put_behind ∙ ap (λ zs. met_in front ++ zs) (placed_first front.place (waiting_in pending) b apart s.gap e)

  pub gap_stays : b.begin ≢ front.place → meeting front.place (placed (waiting_in pending) b) ≡ []
  gap_stays other = gap_placed front.place (waiting_in pending) b s.gap other

  pub apart_back : AreApart 0 (placed (batches_in front pending) b) → AreApart 0 (placed (waiting_in pending) b)
  apart_back a =
      apart_lower 0 (meeting_end 0 (met_in front)) (placed (waiting_in pending) b) (omega arith) (apart_behind 0 (met_in front) (placed (waiting_in pending) b) s.met.met (subst (AreApart 0) put_behind a))

-- what a batch leaves that is put at the front's end or among the waiting ones
pub record Lays {V : Type 0} (batches : List (Batch V)) (b : Batch V) (front : Front V) (pending : Pending V) : Type 0 where
  pub met : IsFront front
  pub keyed : IsKeyed pending
  pub gap : meeting front.place (waiting_in pending) ≡ []
  pub all : batches_in front pending ≡ placed batches b

placed_view : {V : Type 0} (f : Bool) (batches : List (Batch V)) (b : Batch V) → ¬ (b.total ≡ 0) → record { filter = f; batches = placed batches b } ≡ with_batch (record { filter = f; batches = batches }) b
placed_view f batches b some = rw (ne_eqb b.total 0 some) refl

module _ {V : Type 0} (f : Bool) (front : Front V) (pending : Pending V) (end : ℕ) (s : IsLaid f front pending end) (view : Stored V) (is : record { filter = f; batches = batches_in front pending } ≡ view) (b : Batch V) (some : ¬ (b.total ≡ 0)) (unrefused : NothingRefuses view b.begin b.total) (whole : IsWhole view.filter b) where
  least : least_covered (batches_in front pending) b.begin b.total ≡ None
  least = ap (λ (v : Stored V). least_covered v.batches b.begin b.total) is ∙ unrefused_free view.batches b.begin b.total unrefused

  free : IsFree (batches_in front pending) b.begin (end_of b)
  free = free_from (batches_in front pending) b.begin b.total least

  whole_here : IsWhole f b
  whole_here = record { few = whole.few; whole = λ plain. whole.whole (sym (ap (λ (v : Stored V). v.filter) is) ∙ plain) }

  placed_store : IsStore f (placed (batches_in front pending) b)
  placed_store = store_placed f (batches_in front pending) b s.store least (omega (arith, some)) (unrefused_within view.batches b.begin b.total unrefused) whole_here

  pub put_apart : AreApart 0 (placed (waiting_in pending) b)
  put_apart = apart_back f front pending end s b (omega (arith, some)) free placed_store.apart

  pub put_at_end : b.begin ≡ front.place → (met_in front ++ b ∷ []) ++ waiting_in pending ≡ placed (batches_in front pending) b
  put_at_end e = append_assoc (met_in front) (b ∷ []) (waiting_in pending) ∙ sym (put_first f front pending end s b (omega (arith, some)) free e)

  pub put_waiting : met_in front ++ placed (waiting_in pending) b ≡ placed (batches_in front pending) b
  put_waiting = sym (put_behind f front pending end s b (omega (arith, some)) free)

  pub put_gap : b.begin ≢ front.place → meeting front.place (placed (waiting_in pending) b) ≡ []
  put_gap other = gap_stays f front pending end s b (omega (arith, some)) free other

  module _ (front' : Front V) (pending' : Pending V) (l : Lays (batches_in front pending) b front' pending') where
    pub laid_after : (end' : ℕ) → end' ≡ max end (end_of b) → IsLaid f front' pending' end'
    laid_after end' e = record {
      met = l.met;
      keyed = l.keyed;
      store = subst (IsStore f) (sym l.all) placed_store;
      gap = l.gap;
      last = omega (arith, e, s.last, ap greatest_end l.all, greatest_end-placed (batches_in front pending) b);
    }

    pub view_after : record { filter = f; batches = batches_in front' pending' } ≡ with_batch view b
    view_after =
        ap (λ (xs : List (Batch V)). record { filter = f; batches = xs }) l.all
        ∙ placed_view f (batches_in front pending) b some
        ∙ ap (λ v. with_batch v b) is

    pub kept_after : KeepsResults view (record { filter = f; batches = batches_in front' pending' })
    kept_after =
        let kept = kept_by_mode f (batches_in front pending) b s.store whole_here (omega (arith, some)) free in
        λ index value found. ap (λ (xs : List (Batch V)). value_at (record { filter = f; batches = xs }) index) l.all ∙ kept index value (ap (λ v. value_at v index) is ∙ found)

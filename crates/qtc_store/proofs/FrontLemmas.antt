-- The batches that meet from index 0 on, and where their values stand.
use Rattle.std.proofs.Common.{◌≡◌, ℕ, zero, suc, ◌+◌, ◌-◌, ◌<◌, ◌≤◌, Bool, true, false, leb, leb-true, List, [], ◌∷◌, ◌++◌, length, take, get_or, None, refl, ap, sym, ◌∙◌, subst, arith, append_assoc, length-append}
use Rattle.std.specs.List.{flat_map, slice_get}
use Rattle.std.specs.List.Sorted.{IsNonDecreasingBy, IsPartitionPoint}
use Rattle.std.proofs.Math.Seq.{take-nil}
use Rattle.std.proofs.lemmas.Bool.Decides.{nat_tests}
use Rattle.std.proofs.lemmas.List.{append-nil}
use Rattle.qtc_store.specs.declared.batch.Batch.{Batch}
use Rattle.qtc_store.specs.declared.front.Met.{Met}
use Rattle.qtc_store.specs.Batches.{end_of, values_of}
use Rattle.qtc_store.specs.Results.{result_ranges}
use Rattle.qtc_store.specs.Visible.{meeting, meeting_end, positions, position_ranges}
use Rattle.qtc_store.specs.Inside.{batches_of, AreMet, AreFirsts}
use Rattle.qtc_store.proofs.Cells.{slice_get-append_right}
use Rattle.qtc_store.proofs.Gap.{meeting_end-low}
use Rattle.qtc_store.proofs.Meeting.{meeting-next, meeting_end-next}

-- ---- batches that meet, and others behind them
pub met_append : {V : Type 0} (low : ℕ) (xs ys : List (Batch V)) → AreMet low xs → meeting low (xs ++ ys) ≡ xs ++ meeting (meeting_end low xs) ys
met_append low [] ys m = refl
met_append low (b ∷ xs) ys m =
    meeting-next b (xs ++ ys) low m.0 ∙ ap (λ zs. b ∷ zs) (met_append (end_of b) xs ys m.1) ∙ ap (λ n. b ∷ xs ++ meeting n ys) (sym (meeting_end-next b xs low m.0))

pub met_end_append : {V : Type 0} (low : ℕ) (xs ys : List (Batch V)) → AreMet low xs → meeting_end low (xs ++ ys) ≡ meeting_end (meeting_end low xs) ys
met_end_append low [] ys m = refl
met_end_append low (b ∷ xs) ys m =
    meeting_end-next b (xs ++ ys) low m.0 ∙ met_end_append (end_of b) xs ys m.1 ∙ ap (λ n. meeting_end n ys) (sym (meeting_end-next b xs low m.0))

pub met_push : {V : Type 0} (low : ℕ) (xs : List (Batch V)) (b : Batch V) → AreMet low xs → b.begin ≡ meeting_end low xs → AreMet low (xs ++ b ∷ [])
met_push low [] b m e = (e, tt)
met_push low (x ∷ xs) b m e = (m.0, met_push (end_of x) xs b m.1 (e ∙ meeting_end-next x xs low m.0))

pub met_end_push : {V : Type 0} (low : ℕ) (xs : List (Batch V)) (b : Batch V) → AreMet low xs → b.begin ≡ meeting_end low xs → meeting_end low (xs ++ b ∷ []) ≡ end_of b
met_end_push low xs b m e = met_end_append low xs (b ∷ []) m ∙ meeting_end-next b [] (meeting_end low xs) e

-- ---- one batch more
pub batches_push : {V : Type 0} (ms : List (Met V)) (m : Met V) → batches_of (ms ++ m ∷ []) ≡ batches_of ms ++ m.batch ∷ []
batches_push [] m = refl
batches_push (x ∷ ms) m = ap (λ xs. x.batch ∷ xs) (batches_push ms m)

pub values_push : {V : Type 0} (xs : List (Batch V)) (b : Batch V) → flat_map values_of (xs ++ b ∷ []) ≡ flat_map values_of xs ++ (b.values ++ [])
values_push [] b = refl
values_push (x ∷ xs) b = ap (λ ys. x.values ++ ys) (values_push xs b) ∙ sym (append_assoc x.values (flat_map values_of xs) (b.values ++ []))

pub values_len_push : {V : Type 0} (xs : List (Batch V)) (b : Batch V) → length (flat_map values_of (xs ++ b ∷ [])) ≡ length (flat_map values_of xs) + length b.values
values_len_push xs b = ap length (values_push xs b) ∙ length-append (flat_map values_of xs) (b.values ++ []) ∙ ap (λ n. length (flat_map values_of xs) + n) (length-append b.values [] ∙ omega arith)

pub firsts_push : {V : Type 0} (n : ℕ) (ms : List (Met V)) (m : Met V) → AreFirsts n ms → m.first ≡ n + length (flat_map values_of (batches_of ms)) → AreFirsts n (ms ++ m ∷ [])
firsts_push n [] m f e = (omega (arith, e), tt)
firsts_push n (x ∷ ms) m f e =
    let len = length-append x.batch.values (flat_map values_of (batches_of ms)) in
    (f.0, firsts_push (n + length x.batch.values) ms m f.1 (omega (arith, e, len)))

-- ---- the values by position
firsts_above : {V : Type 0} (n : ℕ) (ms : List (Met V)) (k : ℕ) (d : Met V) → AreFirsts n ms → k < length ms → n ≤ (get_or ms k d).first
firsts_above n [] k d f h = absurd (omega arith)
firsts_above n (m ∷ ms) zero d f h = omega (arith, f.0)
firsts_above n (m ∷ ms) (suc k) d f h = let r = firsts_above (n + length m.batch.values) ms k d f.1 (omega arith) in omega (arith, r)

pub firsts_rise : {V : Type 0} (n : ℕ) (ms : List (Met V)) → AreFirsts n ms → IsNonDecreasingBy (λ m. m.first) ms
firsts_rise n [] f i j d le h = absurd (omega arith)
firsts_rise n (m ∷ ms) f zero zero d le h = omega arith
firsts_rise n (m ∷ ms) f zero (suc j) d le h = let r = firsts_above (n + length m.batch.values) ms j d f.1 (omega arith) in omega (arith, r, f.0)
firsts_rise n (m ∷ ms) f (suc i) zero d le h = absurd (omega arith)
firsts_rise n (m ∷ ms) f (suc i) (suc j) d le h = firsts_rise (n + length m.batch.values) ms f.1 i j d (omega arith) (omega arith)

read_front : {V : Type 0} (xs ys : List V) (i : ℕ) → i < length xs → slice_get xs i ≡ slice_get (xs ++ ys) i
read_front [] ys i h = absurd (omega arith)
read_front (x ∷ xs) ys zero h = refl
read_front (x ∷ xs) ys (suc i) h = read_front xs ys i (omega arith)

-- the last batch whose first position is at or below the position has its value, if any has
pub find_position : {V : Type 0} (n p k : ℕ) (ms : List (Met V)) (d : Met V) → AreFirsts n ms → n ≤ p → k < length ms → (get_or ms k d).first ≤ p → (suc k < length ms → p < (get_or ms (suc k) d).first) → slice_get (get_or ms k d).batch.values (p - (get_or ms k d).first) ≡ slice_get (flat_map values_of (batches_of ms)) (p - n)
find_position n p k [] d f low h at next = absurd (omega arith)
find_position n p zero (m ∷ []) d f low h at next =
    ap (λ q. slice_get m.batch.values (p - q)) f.0 ∙ ap (λ xs. slice_get xs (p - n)) (sym (append-nil m.batch.values))
find_position n p zero (m ∷ after ∷ ms) d f low h at next =
    let less : p < n + length m.batch.values = omega (arith, next (omega arith), f.1.0) in
    let within : p - n < length m.batch.values = omega (arith, less, low) in
    ap (λ q. slice_get m.batch.values (p - q)) f.0
    ∙ read_front m.batch.values (flat_map values_of (batches_of (after ∷ ms))) (p - n) within
find_position n p (suc k) (m ∷ ms) d f low h at next =
    let above = firsts_above (n + length m.batch.values) ms k d f.1 (omega arith) in
    let past : length m.batch.values ≤ p - n = omega (arith, above, at) in
    let less : p - n - length m.batch.values ≡ p - (n + length m.batch.values) = omega arith in
    find_position (n + length m.batch.values) p k ms d f.1 (omega (arith, above, at)) (omega arith) at (λ lt. next (omega arith))
    ∙ ap (slice_get (flat_map values_of (batches_of ms))) (sym less)
    ∙ sym (slice_get-append_right m.batch.values (flat_map values_of (batches_of ms)) (p - n) past)

none_at_first : {V : Type 0} (p : ℕ) (ms : List (Met V)) → AreFirsts 0 ms → ((d : Met V) → 0 < length ms → p < (get_or ms 0 d).first) → None ≡ slice_get (flat_map values_of (batches_of ms)) p
none_at_first p [] f above = refl
none_at_first p (m ∷ ms) f above = absurd (omega (arith, above m (omega arith), f.0))

-- ---- what the search answers
abbrev pub is_at : {V : Type 0} → ℕ → Met V → Bool
is_at p m = leb m.first p

leb-past : (m n : ℕ) → leb m n ≡ false → n < m
leb-past m n e = grind (arith, nat_tests)

module _ {V : Type 0} (p after : ℕ) (ms : List (Met V)) (f : AreFirsts 0 ms) (point : IsPartitionPoint (λ y. is_at p y ≡ true) (λ y. is_at p y ≡ false) ms after) (within : after ≤ length ms) where
  pub none_found : after ≡ 0 → None ≡ slice_get (flat_map values_of (batches_of ms)) p
  none_found none = none_at_first p ms f (λ d some. leb-past _ _ (point.1 0 d (omega (arith, none)) some))

  module _ (m : Met V) (some : ¬ (after ≡ 0)) (is : m ≡ get_or ms (after - 1) m) where
    read_at : (get_or ms (after - 1) m).first ≤ p
    read_at = leb-true _ _ (point.0 (after - 1) m (omega arith) (omega (arith, some)))

    pub found_at : m.first ≤ p
    found_at = subst (λ (x : Met V). x.first ≤ p) (sym is) read_at

    pub found_value : slice_get m.batch.values (p - m.first) ≡ slice_get (flat_map values_of (batches_of ms)) p
    found_value =
        ap (λ (x : Met V). slice_get x.batch.values (p - x.first)) is
        ∙ find_position 0 p (after - 1) ms m f (omega arith) (omega (arith, some, within)) read_at (λ less. leb-past _ _ (point.1 (suc (after - 1)) m (omega (arith, some)) less))
        ∙ ap (slice_get (flat_map values_of (batches_of ms))) (omega arith)

-- ---- bounds of what is read
pub met_end_read : {V : Type 0} (low : ℕ) (ms : List (Met V)) (k : ℕ) (d : Met V) → AreMet low (batches_of ms) → k < length ms → end_of (get_or ms k d).batch ≤ meeting_end low (batches_of ms)
met_end_read low [] k d m h = absurd (omega arith)
met_end_read low (x ∷ ms) zero d m h = let e = meeting_end-next x.batch (batches_of ms) low m.0 in let l = meeting_end-low (end_of x.batch) (batches_of ms) in omega (arith, e, l)
met_end_read low (x ∷ ms) (suc k) d m h = let e = meeting_end-next x.batch (batches_of ms) low m.0 in let r = met_end_read (end_of x.batch) ms k d m.1 (omega arith) in omega (arith, e, r)

pub firsts_end_read : {V : Type 0} (n : ℕ) (ms : List (Met V)) (k : ℕ) (d : Met V) → AreFirsts n ms → k < length ms → (get_or ms k d).first + length (get_or ms k d).batch.values ≤ n + length (flat_map values_of (batches_of ms))
firsts_end_read n [] k d f h = absurd (omega arith)
firsts_end_read n (m ∷ ms) zero d f h = omega (arith, f.0, length-append m.batch.values (flat_map values_of (batches_of ms)))
firsts_end_read n (m ∷ ms) (suc k) d f h =
    let r = firsts_end_read (n + length m.batch.values) ms k d f.1 (omega arith) in
    omega (arith, r, length-append m.batch.values (flat_map values_of (batches_of ms)))

-- ---- ranges, batch by batch
pub ranges_take : {V : Type 0} (ms : List (Met V)) (k : ℕ) (d : Met V) → k < length ms → result_ranges (batches_of (take (suc k) ms)) ≡ result_ranges (batches_of (take k ms)) ++ ((get_or ms k d).batch.begin, end_of (get_or ms k d).batch) ∷ []
ranges_take [] k d h = absurd (omega arith)
ranges_take (m ∷ ms) zero d h = refl
ranges_take (m ∷ ms) (suc k) d h = ap (λ xs. (m.batch.begin, end_of m.batch) ∷ xs) (ranges_take ms k d (omega arith))

pub positions_take : {V : Type 0} (n : ℕ) (ms : List (Met V)) (k : ℕ) (d : Met V) → AreFirsts n ms → k < length ms → position_ranges n (batches_of (take (suc k) ms)) ≡ position_ranges n (batches_of (take k ms)) ++ positions (get_or ms k d).first (length (get_or ms k d).batch.values)
positions_take n [] k d f h = absurd (omega arith)
positions_take n (m ∷ ms) zero d f h = append-nil (positions n (length m.batch.values)) ∙ ap (λ q. positions q (length m.batch.values)) (sym f.0)
positions_take n (m ∷ ms) (suc k) d f h =
    ap (λ xs. positions n (length m.batch.values) ++ xs) (positions_take (n + length m.batch.values) ms k d f.1 (omega arith))
    ∙ sym (append_assoc (positions n (length m.batch.values)) (position_ranges (n + length m.batch.values) (batches_of (take k ms))) (positions (get_or ms k d).first (length (get_or ms k d).batch.values)))

-- ---- the batch at an index of the vector
module _ {V : Type 0} (items ms : List (Met V)) (value : ms ≡ items) (k : ℕ) (m : Met V) (h : k < length ms) (is : m ≡ get_or ms k m) where
  here : m ≡ get_or items k m
  here = is ∙ ap (λ xs. get_or xs k m) value

  within : k < length items
  within = omega (arith, ap length value)

  pub end_here : AreMet 0 (batches_of items) → end_of m.batch ≤ meeting_end 0 (batches_of items)
  end_here met = subst (λ (x : Met V). end_of x.batch ≤ meeting_end 0 (batches_of items)) (sym here) (met_end_read 0 items k m met within)

  pub values_here : AreFirsts 0 items → m.first + length m.batch.values ≤ length (flat_map values_of (batches_of items))
  values_here firsts =
      let read = firsts_end_read 0 items k m firsts within in
      subst (λ (x : Met V). x.first + length x.batch.values ≤ length (flat_map values_of (batches_of items))) (sym here) (omega (arith, read))

  pub ranges_here : result_ranges (batches_of (take (k + 1) items)) ≡ result_ranges (batches_of (take k items)) ++ (m.batch.begin, end_of m.batch) ∷ []
  ranges_here =
      let next : k + 1 ≡ suc k = omega arith in
      ap (λ n. result_ranges (batches_of (take n items))) next
      ∙ ranges_take items k m within
      ∙ ap (λ (x : Met V). result_ranges (batches_of (take k items)) ++ (x.batch.begin, end_of x.batch) ∷ []) (sym here)

  pub positions_here : AreFirsts 0 items → position_ranges 0 (batches_of (take (k + 1) items)) ≡ position_ranges 0 (batches_of (take k items)) ++ positions m.first (length m.batch.values)
  positions_here firsts =
      let next : k + 1 ≡ suc k = omega arith in
      ap (λ n. position_ranges 0 (batches_of (take n items))) next
      ∙ positions_take 0 items k m firsts within
      ∙ ap (λ (x : Met V). position_ranges 0 (batches_of (take k items)) ++ positions x.first (length x.batch.values)) (sym here)

-- ---- where no positions are told
none_right : {A : Type 0} (xs ys : List A) → xs ++ ys ≡ [] → ys ≡ []
none_right [] ys e = e
none_right (x ∷ xs) ys e = absurd (cc)

none_taken : {V : Type 0} (place : ℕ) (items : List (Met V)) (k : ℕ) → position_ranges place (batches_of items) ≡ [] → position_ranges place (batches_of (take k items)) ≡ []
none_taken place [] k e = ap (λ (ms : List (Met _)). position_ranges place (batches_of ms)) (take-nil k)
none_taken place (m ∷ items) zero e = refl
none_taken place (m ∷ items) (suc k) e =
    let here = positions place (length m.batch.values) in
    let later = none_right here (position_ranges (place + length m.batch.values) (batches_of items)) e in
    ap (λ rs. here ++ rs) (none_taken (place + length m.batch.values) items k later ∙ sym later) ∙ e

-- a batch of which positions are told is none of those
pub no_positions : {V : Type 0} (items : List (Met V)) (k position count : ℕ) → position_ranges 0 (batches_of items) ≡ [] → position_ranges 0 (batches_of (take (k + 1) items)) ≡ position_ranges 0 (batches_of (take k items)) ++ positions position count → positions position count ≡ []
no_positions items k position count none next =
    none_right (position_ranges 0 (batches_of (take k items))) (positions position count) (sym next ∙ none_taken 0 items (k + 1) none)

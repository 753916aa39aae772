-- What is kept of the items of a range.
use Rattle.std.proofs.Common.{◌≡◌, ◌≢◌, ℕ, suc, ◌+◌, ◌-◌, ◌<◌, ◌≤◌, false, List, [], ◌∷◌, ◌++◌, All, Option, None, Some, length, get_or, take, drop, refl, ap, sym, ◌∙◌, subst, arith, length-drop, length-take-le}
use Rattle.std.specs.Prelude.{slice_range}
use Rattle.std.specs.List.{cons_option}
use Rattle.std.proofs.Math.Seq.{take-add}
use Rattle.std.proofs.lemmas.List.{length-map, map-append, drop-drop, get_or-drop, get_or-take, take_all}
use Rattle.std.proofs.lemmas.List.Elements.{All-head, All-tail, All-from_get_or, All-get_or}
use Rattle.qtc_ops.specs.ItemValue.{ItemValue, kept, dropped, bad}
use Rattle.qtc_ops.specs.Kept.{kept_pair, pairs_from, texts}
use Rattle.qtc_ops.proofs.KeptLemmas.{pairs_between-range, pairs_from-append}
use Rattle.qtc_kernel.specs.Workload.{KeepsAll, Workload, first_bad, is_bad, kept_texts, size_of, texts_in}
use Rattle.qtc_kernel.proofs.Finding.{none_bad}

abbrev items_in : Workload → ℕ → ℕ → List (List ℕ)
items_in work begin end = slice_range work.items begin end

texts-range : (work : Workload) (begin end : ℕ) → begin ≤ end → end ≤ size_of work → texts_in work (begin, end) ≡ texts (pairs_from work.value begin (items_in work begin end))
texts-range work begin end low high = ap texts (pairs_between-range work.value work.items begin end low high)

length-slice : (xs : List (List ℕ)) (begin end : ℕ) → begin ≤ end → end ≤ length xs → length (slice_range xs begin end) ≡ end - begin
length-slice xs begin end low high = length-take-le (end - begin) (drop begin xs) (omega (arith, length-drop begin xs))

-- ---- ranges that meet

slice-meets : (xs : List (List ℕ)) (begin at end : ℕ) → begin ≤ at → at ≤ end → end ≤ length xs → slice_range xs begin end ≡ slice_range xs begin at ++ slice_range xs at end
slice-meets xs begin at end low high within =
    let rest = drop begin xs in
    let sum : end - begin ≡ (at - begin) + (end - at) = omega arith in
    let place : begin + (at - begin) ≡ at = omega arith in
    ap (λ n. take n rest) sum ∙ take-add (at - begin) (end - at) rest
    ∙ ap (λ ys. take (at - begin) rest ++ take (end - at) ys) (drop-drop (at - begin) begin xs ∙ ap (λ n. drop n xs) place)

pub texts-meet : (work : Workload) (begin at end : ℕ) → begin ≤ at → at ≤ end → end ≤ size_of work → texts_in work (begin, end) ≡ texts_in work (begin, at) ++ texts_in work (at, end)
texts-meet work begin at end low high within =
    let value = work.value in
    let first = items_in work begin at in
    let second = items_in work at end in
    let place : begin + length first ≡ at = let len = length-slice work.items begin at low (omega arith) in omega arith in
    texts-range work begin end (omega arith) within
    ∙ ap (λ xs. texts (pairs_from value begin xs)) (slice-meets work.items begin at end low high within)
    ∙ ap texts (pairs_from-append value begin first second)
    ∙ ap (λ n. texts (pairs_from value begin first ++ pairs_from value n second)) place
    ∙ map-append (λ (pair : ℕ × List ℕ). pair.1) (pairs_from value begin first) (pairs_from value at second)
    ∙ sym (ap (λ ts. ts ++ texts (pairs_from value at second)) (texts-range work begin at low (omega arith)))
    ∙ sym (ap (λ ts. texts_in work (begin, at) ++ ts) (texts-range work at end high within))

pub texts-empty : (work : Workload) (at : ℕ) → at ≤ size_of work → texts_in work (at, at) ≡ []
texts-empty work at within =
    let none : at - at ≡ 0 = omega arith in
    texts-range work at at (omega arith) within ∙ ap (λ n. texts (pairs_from work.value at (take n (drop at work.items)))) none

pub texts-all : (work : Workload) → texts_in work (0, size_of work) ≡ kept_texts work
texts-all work =
    let n = size_of work in
    texts-range work 0 n (omega arith) (omega arith) ∙ ap (λ xs. texts (pairs_from work.value 0 xs)) (take_all (n - 0) work.items (omega arith))

-- ---- how many

cons_option-most : {X : Type 0} (o : Option X) (xs : List X) (n : ℕ) → length xs ≤ n → length (cons_option o xs) ≤ suc n
cons_option-most None xs n h = omega arith
cons_option-most (Some x) xs n h = omega arith

pairs_from-most : (value : List ℕ → ItemValue) (first : ℕ) (items : List (List ℕ)) → length (pairs_from value first items) ≤ length items
pairs_from-most value first [] = omega arith
pairs_from-most value first (item ∷ items) = cons_option-most (kept_pair first (value item)) (pairs_from value (first + 1) items) (length items) (pairs_from-most value (first + 1) items)

-- neither dropped nor bad
record IsKeptValue (value : ItemValue) : Type 0 where
  stays : value ≢ dropped
  good : is_bad value ≡ false

one_more : (index : ℕ) (value : ItemValue) (more : List (ℕ × List ℕ)) (n : ℕ) → IsKeptValue value → length more ≡ n → length (cons_option (kept_pair index value) more) ≡ suc n
one_more index (kept text) more n h e = omega arith
one_more index dropped more n h e = absurd (h.stays refl)
one_more index bad more n h e = let good = h.good in absurd (cc)

pairs_from-all : (value : List ℕ → ItemValue) (first : ℕ) (items : List (List ℕ)) → All (λ item. IsKeptValue (value item)) items → length (pairs_from value first items) ≡ length items
pairs_from-all value first [] all = refl
pairs_from-all value first (item ∷ items) all =
    one_more first (value item) (pairs_from value (first + 1) items) (length items) (All-head (λ (i : List ℕ). IsKeptValue (value i)) item items all)
    (pairs_from-all value (first + 1) items (All-tail (λ (i : List ℕ). IsKeptValue (value i)) item items all))

pub texts-most : (work : Workload) (begin end : ℕ) → begin ≤ end → end ≤ size_of work → length (texts_in work (begin, end)) ≤ end - begin
texts-most work begin end low high =
    let pairs = pairs_from work.value begin (items_in work begin end) in
    let same = ap length (texts-range work begin end low high) ∙ length-map pairs (λ (pair : ℕ × List ℕ). pair.1) in
    let most = pairs_from-most work.value begin (items_in work begin end) in
    let len = length-slice work.items begin end low high in
    omega arith

slice-at : (xs : List (List ℕ)) (begin end i : ℕ) → begin + i < end → end ≤ length xs → get_or (slice_range xs begin end) i [] ≡ get_or xs (begin + i) []
slice-at xs begin end i within high = get_or-take (end - begin) (drop begin xs) i [] (omega arith) ∙ get_or-drop begin xs i []

-- where none is dropped and none is bad, one text an index
pub texts-whole : (work : Workload) (begin end : ℕ) → begin ≤ end → end ≤ size_of work → KeepsAll work → first_bad work (begin, end) ≡ None → length (texts_in work (begin, end)) ≡ end - begin
texts-whole work begin end low high keeps good =
    let items = items_in work begin end in
    let pairs = pairs_from work.value begin items in
    let same = ap length (texts-range work begin end low high) ∙ length-map pairs (λ (pair : ℕ × List ℕ). pair.1) in
    let len = length-slice work.items begin end low high in
    let each : All (λ item. IsKeptValue (work.value item)) items = All-from_get_or (λ (item : List ℕ). IsKeptValue (work.value item)) items [] (λ i less.
    let at = slice-at work.items begin end i (omega arith) high in
    subst (λ (item : List ℕ). IsKeptValue (work.value item)) (sym at) (record {
      stays = All-get_or (λ (item : List ℕ). work.value item ≢ dropped) work.items (begin + i) [] (omega arith) keeps;
      good = none_bad work (begin, end) (begin + i) good (omega arith) (omega arith);
    })) in
    let all = pairs_from-all work.value begin items each in
    omega arith

-- How often ranges cover a number, and what a table has for a range.
use Rattle.std.proofs.Common.{◌≡◌, ℕ, zero, suc, ◌+◌, ◌<◌, ◌≤◌, min, cond, List, [], ◌∷◌, ◌++◌, All, map, ap, ◌∙◌, subst, inl, inr, arith}
use Rattle.std.specs.Prelude.{Contains}
use Rattle.std.proofs.lemmas.Bool.Decides.{nat_tests}
use Rattle.std.proofs.lemmas.List.Sums.{sum_by-cons, sum_by_push}
use Rattle.std.proofs.lemmas.List.Elements.{All-cons, All-head, All-nil, All-tail, Contains-push_cases}
use native.Mathlib.Decide.{dec_lt}
use Rattle.std.proofs.lemmas.List.{map-append}
use Rattle.qtc_base.specs.Ranges.{in_range, times_covered}
use Rattle.qtc_claim.specs.Claims.{Addition, clipped}
use Rattle.qtc_claim.specs.Counter.{CounterId, IsGathered, TallyState}

-- 1 where the range has the number, else 0
abbrev pub covers : ℕ → ℕ × ℕ → ℕ
covers number range = cond (in_range number range) 1 0

pub times-cons : (number : ℕ) (range : ℕ × ℕ) (ranges : List (ℕ × ℕ)) → times_covered (range ∷ ranges) number ≡ covers number range + times_covered ranges number
times-cons number range ranges = sum_by-cons (λ (r : ℕ × ℕ). cond (in_range number r) 1 0) range ranges

pub covers_begin : (range : ℕ × ℕ) → range.0 < range.1 → covers range.0 range ≡ 1
covers_begin range some = grind (arith, nat_tests)

pub all_left : {X : Type 0} (P : X → Type 0) (xs ys : List X) → All P (xs ++ ys) → All P xs
all_left P [] ys all = All-nil P
all_left P (x ∷ xs) ys all = All-cons P x xs (All-head P x (xs ++ ys) all) (all_left P xs ys (All-tail P x (xs ++ ys) all))

-- a range that stands in a list counts there
pub contained_covers : (number : ℕ) (ranges : List (ℕ × ℕ)) (range : ℕ × ℕ) → Contains ranges range → covers number range ≤ times_covered ranges number
contained_covers number [] range there = absurd (let within = there.1 in omega arith)
contained_covers number (first ∷ ranges) range (zero, within, is) =
    let counts = times-cons number first ranges in
    let same : covers number first ≡ covers number range = ap (covers number) is in
    omega (arith, counts, same)
contained_covers number (first ∷ ranges) range (suc k, within, is) =
    let counts = times-cons number first ranges in
    let rest = contained_covers number ranges range (k, omega arith, is) in
    omega (arith, counts, rest)

-- where each of these stands in another list, that covers what they cover
pub among_cover : (number : ℕ) (ranges others : List (ℕ × ℕ)) → All (Contains others) ranges → 1 ≤ times_covered ranges number → 1 ≤ times_covered others number
among_cover number [] others among some = absurd (omega arith)
among_cover number (range ∷ ranges) others among some =
    by (dec_lt 0 (times_covered ranges number)) (among_cover number ranges others (All-tail (Contains others) range ranges among))
  where
    by : Dec (0 < times_covered ranges number) → (1 ≤ times_covered ranges number → 1 ≤ times_covered others number) → 1 ≤ times_covered others number
    by (yes more) rest = rest more
    by (no none) rest =
        let counts = times-cons number range ranges in
        let one = contained_covers number others range (All-head (Contains others) range ranges among) in
        omega (arith, counts, one, some, none)

module _ (n : ℕ) (range : ℕ × ℕ) (some : range.0 < range.1) where
  -- a range that stands in a list is covered by it
  pub covers_there : (ranges : List (ℕ × ℕ)) → Contains ranges range → 1 ≤ times_covered ranges range.0
  covers_there ranges there =
      let most = contained_covers range.0 ranges range there in
      let one = covers_begin range some in
      omega (arith, most, one)

  -- pieces that leave its first index uncovered were reported before it
  pub reported_before : (old : List (ℕ × ℕ)) (pieces : List Addition) → times_covered (map (clipped n) pieces) range.0 ≡ 0
      → All (λ piece. Contains (old ++ range ∷ []) (clipped n piece)) pieces → All (λ piece. Contains old (clipped n piece)) pieces
  reported_before old [] none all = All-nil (λ (piece : Addition). Contains old (clipped n piece))
  reported_before old (piece ∷ pieces) none all =
      let P : Addition → Type 0 = λ it. Contains (old ++ range ∷ []) (clipped n it) in
      let counts = times-cons range.0 (clipped n piece) (map (clipped n) pieces) in
      All-cons (λ (it : Addition). Contains old (clipped n it)) piece pieces
      (elim (Contains-push_cases old range (clipped n piece) (All-head P piece pieces all)) [
        | inl there ↦ there
        | inr same ↦ absurd (
            let one : covers range.0 (clipped n piece) ≡ 1 = subst (λ (r : ℕ × ℕ). covers range.0 r ≡ 1) same (covers_begin range some) in
            omega (arith, counts, one, none))
      ])
      (reported_before old pieces (omega (arith, counts, none)) (All-tail P piece pieces all))

-- a piece that is gathered meets none that was gathered before
pub not_both : (counter : CounterId) (pieces : List Addition) (tally' : TallyState) (piece : Addition) → tally'.pieces ≡ pieces ++ piece ∷ [] → IsGathered counter tally' → (index : ℕ) → (clipped counter.n piece).0 ≤ index → index < (clipped counter.n piece).1
    → 1 ≤ times_covered (map (clipped counter.n) pieces) index → ⊥
not_both counter pieces tally' piece pieces_are gathered index low high covered =
    let apart = gathered.pieces.once_below index in
    let ranges_are : map (clipped counter.n) tally'.pieces ≡ map (clipped counter.n) pieces ++ clipped counter.n piece ∷ [] =
    ap (map (clipped counter.n)) pieces_are ∙ map-append (clipped counter.n) pieces (piece ∷ [])
    in
    let all : times_covered (map (clipped counter.n) tally'.pieces) index ≡ times_covered (map (clipped counter.n) pieces) index + covers index (clipped counter.n piece) =
    ap (λ ranges. times_covered ranges index) ranges_are ∙ sum_by_push (λ (r : ℕ × ℕ). cond (in_range index r) 1 0) (map (clipped counter.n) pieces) (clipped counter.n piece)
    in
    let here = inside index (clipped counter.n piece).0 (clipped counter.n piece).1 low high in
    omega (arith, apart, all, here, covered)
  where
    inside : (index begin end : ℕ) → begin ≤ index → index < end → covers index (begin, end) ≡ 1
    inside index begin end low high = grind (arith, nat_tests)

-- a piece that isn't gathered yet leaves its first index uncovered
pub first_uncovered : (counter : CounterId) (pieces : List Addition) (tally' : TallyState) (piece : Addition) → tally'.pieces ≡ pieces ++ piece ∷ [] → IsGathered counter tally' → (range : ℕ × ℕ) → range ≡ clipped counter.n piece → range.0 < range.1
    → times_covered (map (clipped counter.n) pieces) range.0 ≡ 0
first_uncovered counter pieces tally' piece are gathered range is some = by (dec_lt 0 (times_covered (map (clipped counter.n) pieces) range.0))
  where
    by : Dec (0 < times_covered (map (clipped counter.n) pieces) range.0) → times_covered (map (clipped counter.n) pieces) range.0 ≡ 0
    by (yes more) =
        absurd (not_both counter pieces tally' piece are gathered range.0 (subst (λ (r : ℕ × ℕ). r.0 ≤ range.0) is (omega arith)) (subst (λ (r : ℕ × ℕ). range.0 < r.1) is some) more)
    by (no none) = omega arith

-- a piece that began below n and has a size has an index, and ends at n or below it
pub bounds : (n : ℕ) (piece : Addition) → piece.begin < n → 1 ≤ piece.size → ((clipped n piece).0 < (clipped n piece).1) × ((clipped n piece).1 ≤ n)
bounds n piece below some = (first piece.begin piece.size n below some, last piece.begin piece.size n)
  where
    first : (begin size m : ℕ) → begin < m → 1 ≤ size → min begin m < min (begin + size) m
    first begin size m less one = omega arith

    last : (begin size m : ℕ) → min (begin + size) m ≤ m
    last begin size m = omega arith

-- What it comes to that the work of an engine is at its end, and when it is.
use Rattle.std.proofs.Common.{◌≡◌, ℕ, zero, suc, ◌<◌, ◌≤◌, ◌==◌, ◌&&◌, Bool, true, false, cond, List, [], ◌∷◌, All, map, refl, ap, subst, arith, sum_by}
use Rattle.std.specs.Prelude.{Contains}
use native.Mathlib.Decide.{dec_lt}
use Rattle.std.proofs.lemmas.Bool.Decides.{nat_tests}
use Rattle.std.proofs.lemmas.List.Sums.{sum_by-cons}
use Rattle.std.proofs.lemmas.List.Elements.{All-contains_itself, All-head, All-map, All-tail, All-weaker}
use Rattle.qtc_base.specs.Ranges.{Tiles, times_covered}
use Rattle.qtc_claim.specs.Claims.{Addition, AreParts, addition_at, claims_of, clipped, gave}
use Rattle.qtc_claim.specs.Counter.{IsGathered, KnowsClaims, TallyState}
use Rattle.qtc_ops.specs.ItemValue.{ItemValue}
use Rattle.qtc_shared.specs.Journals.{IsJournal, calls_by}
use Rattle.qtc_shared.specs.Parts.{future_at}
use Rattle.qtc_shared.specs.Passes.{PassState}
use Rattle.qtc_kernel.specs.EngineParts.{AreReported, EngineParts, IsBoard, ranges_by, reporter}
use Rattle.qtc_kernel.specs.Gathering.{HasEnded, IsClaimed, gathered_ranges}
use Rattle.qtc_kernel.proofs.Boards.{reports_gathered}
use Rattle.qtc_kernel.proofs.Ending.{reported_once, times_by}
use Rattle.qtc_kernel.proofs.Gathering.{among_cover, none_is_missing}
use Rattle.qtc_kernel.proofs.Passing.{Journal}

-- ---- the gathered pieces are among the claims

abbrev is_that : Addition → Addition → Bool
is_that piece claim = (claim.begin == piece.begin) && (claim.size == piece.size)

-- 1 where the claim is that piece, else 0
abbrev that : Addition → Addition → ℕ
that piece claim = cond (is_that piece claim) 1 0

that_is : (piece claim : Addition) → is_that piece claim ≡ true → claim ≡ piece
that_is piece claim e = λ i. addition_at (begins i) (sizes i)
  where
    begins : claim.begin ≡ piece.begin
    begins = grind (arith, nat_tests)

    sizes : claim.size ≡ piece.size
    sizes = grind (arith, nat_tests)

weighs_there : (piece : Addition) (claims : List Addition) → Contains claims piece → 1 ≤ sum_by (that piece) claims
weighs_there piece [] there = absurd (let within = there.1 in omega arith)
weighs_there piece (claim ∷ claims) (zero, within, is) =
    let counts = sum_by-cons (that piece) claim claims in
    let same : that piece claim ≡ that piece piece = ap (that piece) is in
    let one = itself piece.begin piece.size in
    omega (arith, counts, same, one)
  where
    itself : (begin size : ℕ) → cond {A = ℕ} ((begin == begin) && (size == size)) 1 0 ≡ 1
    itself begin size = grind (arith, nat_tests)
weighs_there piece (claim ∷ claims) (suc k, within, is) =
    let counts = sum_by-cons (that piece) claim claims in
    let rest = weighs_there piece claims (k, omega arith, is) in
    omega (arith, counts, rest)

-- what holds of all claims holds of one that weighs among them
picked : (P : Addition → Type 0) (piece : Addition) (claims : List Addition) → All P claims → 1 ≤ sum_by (that piece) claims → P piece
picked P piece [] all some = absurd (omega arith)
picked P piece (claim ∷ claims) all some =
    elim (is_that piece claim) as (λ b. is_that piece claim ≡ b → P piece) [
      | true ↦ λ e. subst P (that_is piece claim e) (All-head P claim claims all)
      | false ↦ λ e.
          picked P piece claims (All-tail P claim claims all)
          (let counts = sum_by-cons (that piece) claim claims in
          let none : that piece claim ≡ 0 = ap (λ b. cond {A = ℕ} b 1 0) e in
          omega (arith, counts, none, some))
    ] refl

parts_among : (P : Addition → Type 0) (pieces out claims : List Addition) → AreParts pieces out claims → All P claims → All P pieces
parts_among P pieces out claims parts all =
    All-weaker (Contains pieces) P
    (λ piece there.
    picked P piece claims all
    (let some = weighs_there piece pieces there in
    let both = parts.once (that piece) in
    omega (arith, some, both)))
    pieces (All-contains_itself pieces)

-- ---- when it is

-- all is claimed and reported, and each report is of a gathered piece
pub ends : (tally : TallyState) (number : ℕ) (journal : Journal) → IsGathered tally.of tally → KnowsClaims tally → IsClaimed tally → AreReported tally.of.n number (gave tally.of.n (claims_of tally.workers)) journal
    → All (Contains (gathered_ranges tally)) (ranges_by number journal) → HasEnded tally number journal
ends tally number journal gathered knows claimed reported among = record {
  end = (none_is_missing tally (ranges_by number journal) gathered knows claimed (record { claims = reported; pieces = among })).end;
  reported =
      parts_among (λ claim. Contains (ranges_by number journal) (clipped tally.of.n claim)) tally.pieces knows.pieces.0 (gave tally.of.n (claims_of tally.workers)) knows.pieces.1 reported;
}

-- ---- what it comes to

-- what was reported tiles the indexes where the gathered pieces do, each of which was reported
pub ended_tiles : {F : Type 0} (value : F → List ℕ → ItemValue) (parts : EngineParts F) (tally : TallyState) (pass : PassState (List ℕ)) (on : Bool) → IsBoard value parts tally pass on → IsJournal parts.future.terms pass.known
    → AreReported parts.counter.n (reporter parts) tally.pieces pass.known → Tiles (map (clipped parts.counter.n) tally.pieces) parts.counter.n → Tiles (ranges_by (reporter parts) pass.known) parts.counter.n
ended_tiles value parts tally pass on board lawful reported tiles = record { once = once; none = none }
  where
    n : ℕ
    n = parts.counter.n

    ranges : List (ℕ × ℕ)
    ranges = ranges_by (reporter parts) pass.known

    once : (index : ℕ) → index < n → times_covered ranges index ≡ 1
    once index less =
        let one = tiles.once index less in
        let some : 1 ≤ times_covered ranges index = among_cover index (map (clipped n) tally.pieces) ranges (All-map (Contains ranges) (clipped n) tally.pieces reported) (omega (arith, one)) in
        let most = times_by (reporter parts) pass.known index in
        let few = reported_once (future_at parts.future.terms pass.known) lawful.legal index in
        omega (arith, some, most, few)

    among : All (Contains (map (clipped n) tally.pieces)) ranges
    among = subst (λ k. All (Contains (map (clipped n) tally.pieces)) (ranges_by k pass.known)) board.number (reports_gathered value parts tally.pieces (calls_by pass.number pass.known) board.reports)

    none : (index : ℕ) → n ≤ index → times_covered ranges index ≡ 0
    none index past = by (dec_lt 0 (times_covered ranges index))
      where
        by : Dec (0 < times_covered ranges index) → times_covered ranges index ≡ 0
        by (yes more) =
            let some = among_cover index ranges (map (clipped n) tally.pieces) among more in
            let zero_there = tiles.none index past in
            absurd (omega (arith, some, zero_there))
        by (no none) = omega arith

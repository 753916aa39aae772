-- What it comes to that an inbox is at its end.
use Rattle.std.proofs.Common.{◌≡◌, ℕ, ◌+◌, ◌<◌, ◌≤◌, Bool, true, false, ◌==◌, nat_lt, cond, List, [], ◌∷◌, ◌++◌, map, fold, if◌then◌else◌, refl, ap, ◌∙◌, arith}
use Rattle.std.specs.Prelude.{Contains}
use native.Mathlib.Decide.{dec_lt}
use Rattle.std.proofs.lemmas.Bool.Decides.{nat_tests}
use Rattle.std.proofs.lemmas.List.{map-append}
use Rattle.std.proofs.lemmas.List.Elements.{All-map}
use Rattle.std.proofs.lemmas.List.Sums.{sum_by-append}
use Rattle.qtc_base.specs.Ranges.{Tiles, in_range, times_covered}
use Rattle.qtc_claim.specs.Claims.{clipped}
use Rattle.qtc_claim.specs.Counter.{TallyState}
use Rattle.qtc_store.specs.Batches.{AreApart, end_of, in_order, placed}
use Rattle.qtc_store.specs.declared.batch.Batch.{Batch}
use Rattle.qtc_store.proofs.Keeping.{batches_keep_results}
use Rattle.qtc_future.specs.Legal.{IsLegal}
use Rattle.qtc_future.specs.Future.{Future, batches_in, reports_of}
use Rattle.qtc_future.proofs.Staying.{legal_store}
use Rattle.qtc_shared.specs.Journals.{IsJournal, calls_by}
use Rattle.qtc_shared.specs.Parts.{future_at}
use Rattle.qtc_shared.specs.Passes.{PassState}
use Rattle.qtc_inbox.specs.Boards.{FitTogether, InboxParts, IsReporting}
use Rattle.qtc_inbox.specs.Reports.{AreReported, range_of, ranges_by}
use Rattle.qtc_inbox.proofs.Journals.{JournalOf}
use Rattle.qtc_inbox.proofs.Ranges.{among_cover, covers, times-cons}
use Rattle.qtc_inbox.proofs.Reporting.{all_gathered}

module _ {V : Type 0} where
  times_placed : (index : ℕ) (batches : List (Batch V)) (batch : Batch V) → times_covered (map range_of (placed batches batch)) index ≡ covers index (range_of batch) + times_covered (map range_of batches) index
  times_placed index [] batch = times-cons index (range_of batch) []
  times_placed index (first ∷ batches) batch =
      elim (nat_lt batch.begin first.begin) as (λ b. times_covered (map range_of (if b then batch ∷ first ∷ batches else first ∷ placed batches batch)) index ≡ covers index (range_of batch) + times_covered (map range_of (first ∷ batches)) index) [
        | true ↦ times-cons index (range_of batch) (map range_of (first ∷ batches))
        | false ↦
            let rest = times_placed index batches batch in
            let one = times-cons index (range_of first) (map range_of (placed batches batch)) in
            let all = times-cons index (range_of first) (map range_of batches) in
            omega arith
      ]

  times_fold : (index : ℕ) (start batches : List (Batch V)) → times_covered (map range_of (fold placed start batches)) index ≡ times_covered (map range_of start) index + times_covered (map range_of batches) index
  times_fold index start [] = omega arith
  times_fold index start (batch ∷ batches) =
      let rest = times_fold index (placed start batch) batches in
      let one = times_placed index start batch in
      let all = times-cons index (range_of batch) (map range_of batches) in
      omega arith

  apart_low : (index low : ℕ) (batches : List (Batch V)) → AreApart low batches → index < low → times_covered (map range_of batches) index ≡ 0
  apart_low index low [] apart less = refl
  apart_low index low (batch ∷ batches) apart less =
      let one = times-cons index (range_of batch) (map range_of batches) in
      let none : covers index (batch.begin, end_of batch) ≡ 0 = before index batch.begin (end_of batch) (let low_is = apart.0 in omega arith) in
      let rest = apart_low index (end_of batch) batches apart.2 (let low_is = apart.0 in let some = apart.1 in omega arith) in
      omega arith
    where
      before : (index begin end : ℕ) → index < begin → covers index (begin, end) ≡ 0
      before index begin end less = grind (arith, nat_tests)

  apart_once : (index low : ℕ) (batches : List (Batch V)) → AreApart low batches → times_covered (map range_of batches) index ≤ 1
  apart_once index low [] apart = omega arith
  apart_once index low (batch ∷ batches) apart = by (dec_lt index (end_of batch)) (apart_once index (end_of batch) batches apart.2)
    where
      one : times_covered (map range_of (batch ∷ batches)) index ≡ covers index (range_of batch) + times_covered (map range_of batches) index
      one = times-cons index (range_of batch) (map range_of batches)

      most : (index begin end : ℕ) → covers index (begin, end) ≤ 1
      most index begin end = grind (arith, nat_tests)

      past : (index begin end : ℕ) → end ≤ index → covers index (begin, end) ≡ 0
      past index begin end h = grind (arith, nat_tests)

      by : Dec (index < end_of batch) → times_covered (map range_of batches) index ≤ 1 → times_covered (map range_of (batch ∷ batches)) index ≤ 1
      by (yes less) rest = let none = apart_low index (end_of batch) batches apart.2 less in let few = most index batch.begin (end_of batch) in let all = one in omega arith
      by (no more) rest = let none = past index batch.begin (end_of batch) (omega arith) in let all = one in omega arith

  pub times_by : (number : ℕ) (journal : JournalOf V) (index : ℕ) → times_covered (ranges_by number journal) index ≤ times_covered (map range_of (reports_of journal)) index
  times_by number [] index = omega arith
  times_by number (logged ∷ journal) index =
      let rest = times_by number journal index in
      let all = times_both (batches_in logged) (reports_of journal) in
      elim (logged.entry.caller == number) as (λ b. times_covered (map range_of (reports_of (if b then logged ∷ calls_by number journal else calls_by number journal))) index ≤ times_covered (map range_of (batches_in logged ++ reports_of journal)) index) [
        | true ↦ let some = times_both (batches_in logged) (reports_of (calls_by number journal)) in omega (arith, rest, all, some)
        | false ↦ omega (arith, rest, all)
      ]
    where
      times_both : (xs ys : List (Batch V)) → times_covered (map range_of (xs ++ ys)) index ≡ times_covered (map range_of xs) index + times_covered (map range_of ys) index
      times_both xs ys = ap (λ ranges. times_covered ranges index) (map-append range_of xs ys) ∙ sum_by-append (λ (r : ℕ × ℕ). cond (in_range index r) 1 0) (map range_of xs) (map range_of ys)

  -- each index was reported once at most
  pub reported_once : (future : Future V) → IsLegal future → (index : ℕ) → times_covered (map range_of (reports_of future.calls)) index ≤ 1
  reported_once future legal index =
      let store = legal_store (batches_keep_results _) future legal in
      let once = apart_once index 0 (in_order (reports_of future.calls)) store.apart in
      let same = times_fold index [] (reports_of future.calls) in
      let none : times_covered (map (range_of {V = V}) []) index ≡ 0 = refl in
      omega (arith, once, same, none)

  -- what was reported tiles the indexes where the gathered pieces do, each of which was reported
  pub ended_tiles : (parts : InboxParts V) → FitTogether parts.key parts.pass → (tally : TallyState) (pass : PassState V) (on : Bool) → IsReporting parts tally pass on → IsJournal parts.pass.of.terms pass.known
      → AreReported parts.key.counter.n parts.pass.number tally.pieces pass.known → Tiles (map (clipped parts.key.counter.n) tally.pieces) parts.key.counter.n → Tiles (ranges_by parts.pass.number pass.known) parts.key.counter.n
  ended_tiles parts fits tally pass on is lawful reported tiles = record { once = once; none = none }
    where
      n : ℕ
      n = parts.key.counter.n

      ranges : List (ℕ × ℕ)
      ranges = ranges_by parts.pass.number pass.known

      once : (index : ℕ) → index < n → times_covered ranges index ≡ 1
      once index less =
          let one = tiles.once index less in
          let some : 1 ≤ times_covered ranges index = among_cover index (map (clipped n) tally.pieces) ranges (All-map (Contains ranges) (clipped n) tally.pieces reported) (omega (arith, one)) in
          let most = times_by parts.pass.number pass.known index in
          let few = reported_once (future_at parts.pass.of.terms pass.known) lawful.legal index in
          omega (arith, some, most, few)

      none : (index : ℕ) → n ≤ index → times_covered ranges index ≡ 0
      none index past = by (dec_lt 0 (times_covered ranges index))
        where
          by : Dec (0 < times_covered ranges index) → times_covered ranges index ≡ 0
          by (yes more) =
              let some = among_cover index ranges (map (clipped n) tally.pieces) (all_gathered parts fits tally pass on is) more in
              let zero_there = tiles.none index past in
              absurd (omega (arith, some, zero_there))
          by (no none) = omega arith

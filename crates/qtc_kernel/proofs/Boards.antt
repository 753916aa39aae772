-- What stays true of the board of an engine.
use Rattle.std.proofs.Common.{◌≡◌, ◌↔◌, ℕ, ◌+◌, ◌-◌, ◌<◌, ◌≤◌, min, Bool, true, false, not, ◌&&◌, ◌||◌, ◌==◌, nat_lt, List, [], ◌∷◌, ◌++◌, Option, None, Some, All, IsTrue, cond, map, length, Result, Ok, Err, IfOk, OnErr, if◌then◌else◌, inl, inr, refl, ap, sym, ◌∙◌, subst, arith}
use Rattle.std.specs.Prelude.{Contains}
use Rattle.std.specs.List.{list_any}
use Rattle.std.proofs.lemmas.Bool.{cases_lt, false≢true}
use Rattle.std.proofs.lemmas.Bool.Decides.{nat_tests}
use Rattle.std.proofs.lemmas.List.{map-append}
use Rattle.std.proofs.lemmas.List.Sums.{sum_by_push}
use Rattle.std.proofs.lemmas.List.Elements.{All-cons, All-contains, All-head, All-nil, All-push, All-tail, All-weaker, Contains-append_left, Contains-push, Contains-push_cases}
use native.Mathlib.Decide.{dec_lt}
use Rattle.qtc_base.specs.Ranges.{in_range, times_covered}
use Rattle.qtc_claim.specs.Claims.{Addition, clipped}
use Rattle.qtc_claim.specs.Counter.{CounterId, IsGathered, PieceState, TallyState}
use Rattle.qtc_store.specs.Batches.{end_of, in_order, is_covered, least_covered}
use Rattle.qtc_base.specs.Limits.{most_end}
use Rattle.qtc_store.specs.declared.batch.Batch.{Batch}
use Rattle.qtc_store.specs.Stored.{batch_with}
use Rattle.qtc_store.proofs.Offers.{is_covered-in_order}
use Rattle.qtc_future.specs.Answering.{IsStep}
use Rattle.qtc_future.specs.Future.{Future, Logged, batches_in, reports_of, results_of}
use Rattle.qtc_future.specs.Steps.{PastEnd, Stepped, accepted, dropped, has_ended, judged, offered, stays, step, told_by, with_call, with_report}
use Rattle.qtc_future.specs.declared.replies.Reply.{Reply}
use Rattle.qtc_future.specs.declared.requests.Request.TheVariants.{ReportBatch}
use Rattle.qtc_ops.specs.ItemValue.{ItemValue}
use Rattle.qtc_shared.specs.Journals.{BeginsWith, calls_by, flags_at}
use Rattle.qtc_shared.specs.Parts.{future_at}
use Rattle.qtc_shared.specs.Passes.{IsHold, Meets, PassState, Stays, is_accepted}
use Rattle.qtc_shared.proofs.Prefixes.{begins_further, saw_begins}
use Rattle.qtc_events.specs.declared.calls.Call.TheVariants.{Report, Cancel}
use Rattle.qtc_kernel.specs.OwnPasses.{opening}
use Rattle.qtc_kernel.proofs.OwnPasses.{plain_drops, unreported}
use Rattle.qtc_kernel.specs.EngineParts.{EngineParts, HasBoard, IsBoard, IsBoardCall, FitTogether, IsLeft, IsOfPiece, KnowsEnd, is_report, is_strange, ranges_by, reporter, shows_end, work_of}
use Rattle.qtc_kernel.specs.Runs.{IsBlock, range_of}
use Rattle.qtc_kernel.specs.Working.{IsHandedIn, IsPieceOf, is_drop, range_in}
use Rattle.qtc_kernel.specs.Workload.{Workload, first_bad, size_of, texts_in}
use Rattle.qtc_kernel.proofs.Asking.{reported}
use Rattle.qtc_kernel.proofs.Counted.{IsPart}
use Rattle.qtc_kernel.proofs.Finding.{found_within}
use Rattle.qtc_kernel.proofs.Counting.{covers, covers_begin, times-cons}
use Rattle.qtc_kernel.proofs.Gathering.{all_left, among_cover, contained_covers}
use Rattle.qtc_kernel.proofs.Kept.{texts-most, texts-whole}
use Rattle.qtc_kernel.proofs.Passing.{Journal, begins_more, calls_by-append, contained_on, end_stays, no_batch, own_call, ranges_by-append, reports-append, strange_on}
use Rattle.qtc_kernel.proofs.Sound.{batch_in, batch_range}
use Rattle.qtc_kernel.proofs.Tiled.{none_covers}

-- ---- reports of one number

-- where no report is of another number, the reports are those of this one
pub none_strange : (number : ℕ) (journal : Journal) → list_any (is_strange number) journal ≡ false → reports_of journal ≡ reports_of (calls_by number journal)
none_strange number [] none = refl
none_strange number (logged ∷ journal) none =
    let first : is_strange number logged ≡ false = left_false (is_strange number logged) (list_any (is_strange number) journal) none in
    let rest = none_strange number journal (right_false (is_strange number logged) (list_any (is_strange number) journal) none) in
    elim (logged.entry.caller == number) as (λ b. (logged.entry.caller == number) ≡ b → batches_in logged ++ reports_of journal ≡ reports_of (if b then logged ∷ calls_by number journal else calls_by number journal)) [
      | true ↦ λ e. ap (λ batches. batches_in logged ++ batches) rest
      | false ↦ λ e. ap (λ batches. batches ++ reports_of journal) (no_batch logged.entry.call logged.values (from_not (is_report logged.entry.call) (ap (λ b. is_report logged.entry.call && not b) (sym e) ∙ first))) ∙ rest
    ] refl
  where
    left_false : (a b : Bool) → (a || b) ≡ false → a ≡ false
    left_false a b h = grind arith

    right_false : (a b : Bool) → (a || b) ≡ false → b ≡ false
    right_false a b h = grind arith

    from_not : (a : Bool) → (a && not false) ≡ false → a ≡ false
    from_not a h = grind arith

-- ---- what a report comes to

-- an end stands; or an index of the batch is covered; or the batch is logged
pub data Comes (future : Future (List ℕ)) (caller : ℕ) (batch : Batch (List ℕ)) (stepped : Stepped (List ℕ)) : Type 0 where
  is_over : has_ended future ≡ true → stepped.future ≡ future → is_drop stepped.told ≡ true → is_accepted stepped.told ≡ false → Comes future caller batch stepped
  is_taken : (index : ℕ) → least_covered (results_of future).batches batch.begin batch.total ≡ Some index → stepped.future ≡ future → is_drop stepped.told ≡ false → is_accepted stepped.told ≡ false → Comes future caller batch stepped
  is_logged : stepped.future ≡ with_call future (reported future caller batch) → is_drop stepped.told ≡ false → is_accepted stepped.told ≡ true → Comes future caller batch stepped

chosen : (future : Future (List ℕ)) (caller : ℕ) (batch : Batch (List ℕ)) (b : Bool) (x y : Stepped (List ℕ)) → (b ≡ true → Comes future caller batch x) → (b ≡ false → Comes future caller batch y) → Comes future caller batch (if b then x else y)
chosen future caller batch true x y h k = h refl
chosen future caller batch false x y h k = k refl

some_logged : (future : Future (List ℕ)) (caller : ℕ) (batch : Batch (List ℕ)) → 0 < batch.total → with_report future caller batch ≡ with_call future (reported future caller batch)
some_logged future caller batch some = let is : (batch.total == 0) ≡ false = grind (arith, nat_tests) in rw is refl

judged_comes : (future : Future (List ℕ)) (caller : ℕ) (batch : Batch (List ℕ)) → 0 < batch.total → end_of batch ≤ most_end → (least : Option ℕ) → least_covered (results_of future).batches batch.begin batch.total ≡ least → Comes future caller batch (judged future caller batch least)
judged_comes future caller batch some within (Some index) e = is_taken index e refl refl refl
judged_comes future caller batch some within None e =
    chosen future caller batch (nat_lt most_end (end_of batch)) (stays future PastEnd) (accepted future caller batch)
    (λ h. absurd (past most_end (end_of batch) within h))
    (λ h. is_logged (some_logged future caller batch some) refl refl)
  where
    past : (most end : ℕ) → end ≤ most → nat_lt most end ≡ true → ⊥
    past most end within h = grind (arith, nat_tests)

pub comes : (future : Future (List ℕ)) (caller : ℕ) (batch : Batch (List ℕ)) → 0 < batch.total → end_of batch ≤ most_end → Comes future caller batch (offered future caller batch)
comes future caller batch some within =
    chosen future caller batch (has_ended future) (dropped future) (judged future caller batch (least_covered (results_of future).batches batch.begin batch.total))
    (λ h. is_over h refl refl refl)
    (λ h. judged_comes future caller batch some within (least_covered (results_of future).batches batch.begin batch.total) refl)

-- ---- which pieces were reported

module _ (n : ℕ) (range : ℕ × ℕ) (some : range.0 < range.1) where
  -- a range that stands in a list is covered by it
  covers_there : (ranges : List (ℕ × ℕ)) → Contains ranges range → 1 ≤ times_covered ranges range.0
  covers_there ranges there =
      let most = contained_covers range.0 ranges range there in
      let one = covers_begin range some in
      omega (arith, most, one)

  -- pieces that leave its first index uncovered were reported before it
  reported_before : (old : List (ℕ × ℕ)) (pieces : List Addition) → times_covered (map (clipped n) pieces) range.0 ≡ 0
      → All (λ piece. Contains (old ++ range ∷ []) (clipped n piece)) pieces → All (λ piece. Contains old (clipped n piece)) pieces
  reported_before old [] none all = All-nil (λ (piece : Addition). Contains old (clipped n piece))
  reported_before old (piece ∷ pieces) none all =
      let P : Addition → Type 0 = λ it. Contains (old ++ range ∷ []) (clipped n it) in
      let counts = times-cons range.0 (clipped n piece) (map (clipped n) pieces) in
      All-cons (λ (it : Addition). Contains old (clipped n it)) piece pieces
      (elim (Contains-push_cases old range (clipped n piece) (All-head P piece pieces all)) [
        | inl there ↦ there
        | inr same ↦ absurd (
            let one : covers range.0 (clipped n piece) ≡ 1 = subst (λ (r : ℕ × ℕ). covers range.0 r ≡ 1) same (covers_begin range some) in
            omega (arith, counts, one, none))
      ])
      (reported_before old pieces (omega (arith, counts, none)) (All-tail P piece pieces all))

-- ---- the board goes on

module _ {F : Type 0} (value : F → List ℕ → ItemValue) (parts : EngineParts F) where
  n : ℕ
  n = parts.counter.n

  -- what the mark tells where these ranges were reported
  abbrev pub Marks : Bool → List (ℕ × ℕ) → List Addition → Type 0
  Marks on ranges pieces = IsTrue on ↔ All (λ piece. Contains ranges (clipped parts.counter.n piece)) pieces

  -- the journal is met, and no call of the board's own comes to it
  pub board_met : (tally : TallyState) (pass pass' : PassState (List ℕ)) (on : Bool) (journal : Journal) → IsBoard value parts tally pass on → Meets pass journal → pass'.known ≡ journal → pass' ≡ record pass { known = pass'.known; seen = [] } → IsBoard value parts tally pass' on
  board_met tally pass pass' on journal board met known is =
      let number : pass'.number ≡ pass.number = ap (λ (p : PassState (List ℕ)). p.number) is in
      let own : calls_by pass'.number pass'.known ≡ calls_by pass.number pass.known = ap (λ k. calls_by k pass'.known) number ∙ ap (calls_by pass.number) known ∙ met.own in
      let same : ranges_by (reporter parts) pass'.known ≡ ranges_by (reporter parts) pass.known =
      ap (λ k. ranges_by k pass'.known) (sym (number ∙ board.number)) ∙ ap (λ (calls : Journal). map range_of (reports_of calls)) own ∙ ap (λ k. ranges_by k pass.known) board.number
      in
      record {
        counter = board.counter;
        future = ap (λ (p : PassState (List ℕ)). p.of) is ∙ board.future;
        number = number ∙ board.number;
        childless = ap (λ (p : PassState (List ℕ)). p.children) is ∙ board.childless;
        opened = begins_further opening pass.known pass'.known board.opened (subst (λ k. BeginsWith k pass.known) (sym known) (saw_begins pass.known journal pass.seen met.saw));
        reports = subst (All (IsBoardCall parts.future.terms false (work_of value parts) parts.counter.n parts.sizes tally.pieces)) (sym own) board.reports;
        mark = subst (λ ranges. Marks on ranges tally.pieces) (sym same) board.mark;
      }

  pub board_stays : (tally : TallyState) (pass pass' : PassState (List ℕ)) (on : Bool) → IsBoard value parts tally pass on → IsHold pass pass' Stays → IsBoard value parts tally pass' on
  board_stays tally pass pass' on board hold = board_met tally pass pass' on hold.journal board hold.met (ap (λ (f : Future (List ℕ)). f.calls) hold.done) hold.pass

  -- more pieces are gathered
  of_piece_more : (pieces more : List Addition) (logged : Logged (List ℕ)) → IsOfPiece (work_of value parts) parts.counter.n parts.sizes pieces logged → IsOfPiece (work_of value parts) parts.counter.n parts.sizes (pieces ++ more) logged
  of_piece_more pieces more logged is = record {
    batch = is.batch;
    reports = is.reports;
    texts = is.texts;
    good = is.good;
    block = is.block;
    gathered = subst (λ ranges. Contains ranges (range_of is.batch)) (sym (map-append (clipped parts.counter.n) pieces more)) (Contains-append_left (map (clipped parts.counter.n) pieces) (map (clipped parts.counter.n) more) (range_of is.batch) is.gathered);
  }

  of_pieces_more : (pieces more : List Addition) (logged : Logged (List ℕ)) → IsBoardCall parts.future.terms false (work_of value parts) parts.counter.n parts.sizes pieces logged → IsBoardCall parts.future.terms false (work_of value parts) parts.counter.n parts.sizes (pieces ++ more) logged
  of_pieces_more pieces more logged is = record {
    own = is.own;
    reports = λ report. of_piece_more pieces more logged (is.reports report);
    cancels = is.cancels;
  }

  pub reports_more : (pieces pieces' more : List Addition) (calls : Journal) → pieces' ≡ pieces ++ more → All (IsBoardCall parts.future.terms false (work_of value parts) parts.counter.n parts.sizes pieces) calls → All (IsBoardCall parts.future.terms false (work_of value parts) parts.counter.n parts.sizes pieces') calls
  reports_more pieces pieces' more calls are all =
      subst (λ (them : List Addition). All (IsBoardCall parts.future.terms false (work_of value parts) parts.counter.n parts.sizes them) calls) (sym are)
      (All-weaker (IsBoardCall parts.future.terms false (work_of value parts) parts.counter.n parts.sizes pieces) (IsBoardCall parts.future.terms false (work_of value parts) parts.counter.n parts.sizes (pieces ++ more)) (of_pieces_more pieces more) calls all)

  -- seats are gathered
  pub board_seats : (tally tally' : TallyState) (pass : PassState (List ℕ)) (on : Bool) → IsBoard value parts tally pass on → tally'.of ≡ tally.of → tally'.pieces ≡ tally.pieces → IsBoard value parts tally' pass on
  board_seats tally tally' pass on board of pieces = record {
    counter = of ∙ board.counter;
    future = board.future;
    number = board.number;
    childless = board.childless;
    opened = board.opened;
    reports = subst (λ (all : List Addition). All (IsBoardCall parts.future.terms false (work_of value parts) parts.counter.n parts.sizes all) (calls_by pass.number pass.known)) (sym pieces) board.reports;
    mark = subst (λ (all : List Addition). Marks on (ranges_by (reporter parts) pass.known) all) (sym pieces) board.mark;
  }

  -- the ranges of its reports are those of gathered pieces
  pub reports_gathered : (pieces : List Addition) (calls : Journal) → All (IsBoardCall parts.future.terms false (work_of value parts) parts.counter.n parts.sizes pieces) calls → All (Contains (map (clipped parts.counter.n) pieces)) (map range_of (reports_of calls))
  reports_gathered pieces [] all = All-nil (Contains (map (clipped parts.counter.n) pieces))
  reports_gathered pieces (logged ∷ calls) all =
      let P = IsBoardCall parts.future.terms false (work_of value parts) parts.counter.n parts.sizes pieces in
      let Q = Contains (map (clipped parts.counter.n) pieces) in
      let first = All-head P logged calls all in
      let rest = reports_gathered pieces calls (All-tail P logged calls all) in
      elim (is_report logged.entry.call) as (λ b. is_report logged.entry.call ≡ b → All Q (map range_of (reports_of (logged ∷ calls)))) [
        | true ↦ λ e.
            let piece = first.reports e in
            subst (λ batches. All Q (map range_of (batches ++ reports_of calls))) (sym piece.reports) (All-cons Q (range_of piece.batch) (map range_of (reports_of calls)) piece.gathered rest)
        | false ↦ λ e. subst (λ batches. All Q (map range_of (batches ++ reports_of calls))) (sym (unreported logged.entry.call logged.values e)) rest
      ] refl

-- a piece that is gathered meets none that was gathered before
pub not_both : (counter : CounterId) (tally tally' : TallyState) (piece : Addition) → tally' ≡ record tally { pieces = tally.pieces ++ piece ∷ [] } → IsGathered counter tally' → (index : ℕ) → (clipped counter.n piece).0 ≤ index → index < (clipped counter.n piece).1
    → 1 ≤ times_covered (map (clipped counter.n) tally.pieces) index → ⊥
not_both counter tally tally' piece tally_is gathered index low high covered =
    let apart = gathered.pieces.once_below index in
    let ranges_are : map (clipped counter.n) tally'.pieces ≡ map (clipped counter.n) tally.pieces ++ clipped counter.n piece ∷ [] =
    ap (λ (t : TallyState). map (clipped counter.n) t.pieces) tally_is ∙ map-append (clipped counter.n) tally.pieces (piece ∷ [])
    in
    let all : times_covered (map (clipped counter.n) tally'.pieces) index ≡ times_covered (map (clipped counter.n) tally.pieces) index + cond (in_range index (clipped counter.n piece)) 1 0 =
    ap (λ ranges. times_covered ranges index) ranges_are ∙ sum_by_push (λ (r : ℕ × ℕ). cond (in_range index r) 1 0) (map (clipped counter.n) tally.pieces) (clipped counter.n piece)
    in
    let here = inside index (clipped counter.n piece).0 (clipped counter.n piece).1 low high in
    omega (arith, apart, all, here, covered)
  where
    inside : (index begin end : ℕ) → begin ≤ index → index < end → cond {A = ℕ} (in_range index (begin, end)) 1 0 ≡ 1
    inside index begin end low high = grind (arith, nat_tests)

-- no report of a gathered piece covers a piece that is gathered next
pub left_gathered : {F : Type 0} (value : F → List ℕ → ItemValue) (parts : EngineParts F) (tally tally' : TallyState) (pass own : PassState (List ℕ)) (on : Bool) (piece : Addition) → IsBoard value parts tally pass on → own.known ≡ pass.known → KnowsEnd own
    → tally' ≡ record tally { pieces = tally.pieces ++ piece ∷ [] } → IsGathered parts.counter tally' → IsLeft parts.counter.n (reporter parts) own piece
left_gathered value parts tally tally' pass own on piece board known ended tally_is gathered = record {
  ended = ended;
  uncovered = λ index low high.
      ap (λ k. times_covered (ranges_by (reporter parts) k) index) known ∙ ap (λ number. times_covered (ranges_by number pass.known) index) (sym board.number)
      ∙ none index low high (dec_lt 0 (times_covered (ranges_by pass.number pass.known) index));
}
  where
    none : (index : ℕ) → (clipped parts.counter.n piece).0 ≤ index → index < (clipped parts.counter.n piece).1 → Dec (0 < times_covered (ranges_by pass.number pass.known) index) → times_covered (ranges_by pass.number pass.known) index ≡ 0
    none index low high (yes more) =
        absurd (not_both parts.counter tally tally' piece tally_is gathered index low high
        (among_cover index (ranges_by pass.number pass.known) (map (clipped parts.counter.n) tally.pieces) (reports_gathered value parts tally.pieces (calls_by pass.number pass.known) board.reports) more))
    none index low high (no few) = omega arith

-- a piece that isn't gathered yet leaves its first index uncovered
first_uncovered : (counter : CounterId) (tally tally' : TallyState) (piece : Addition) → tally' ≡ record tally { pieces = tally.pieces ++ piece ∷ [] } → IsGathered counter tally' → (range : ℕ × ℕ) → range ≡ clipped counter.n piece → range.0 < range.1
    → times_covered (map (clipped counter.n) tally.pieces) range.0 ≡ 0
first_uncovered counter tally tally' piece tally_is gathered range is some = by (dec_lt 0 (times_covered (map (clipped counter.n) tally.pieces) range.0))
  where
    by : Dec (0 < times_covered (map (clipped counter.n) tally.pieces) range.0) → times_covered (map (clipped counter.n) tally.pieces) range.0 ≡ 0
    by (yes more) =
        absurd (not_both counter tally tally' piece tally_is gathered range.0 (subst (λ (r : ℕ × ℕ). r.0 ≤ range.0) is (omega arith)) (subst (λ (r : ℕ × ℕ). range.0 < r.1) is some) more)
    by (no none) = omega arith

-- a piece is gathered that isn't reported
pub board_leaves : {F : Type 0} (value : F → List ℕ → ItemValue) (parts : EngineParts F) (tally tally' : TallyState) (pass : PassState (List ℕ)) (on : Bool) (piece : Addition) → piece.begin < parts.counter.n → 1 ≤ piece.size → IsBoard value parts tally pass on
    → tally' ≡ record tally { pieces = tally.pieces ++ piece ∷ [] } → IsGathered parts.counter tally' → IsBoard value parts tally' pass false
board_leaves value parts tally tally' pass on piece below some board is gathered = record {
  counter = ap (λ (t : TallyState). t.of) is ∙ board.counter;
  future = board.future;
  number = board.number;
  childless = board.childless;
  opened = board.opened;
  reports = reports_more value parts tally.pieces tally'.pieces (piece ∷ []) (calls_by pass.number pass.known) pieces board.reports;
  mark = (λ e. absurd (false≢true e), λ all. absurd (missing all));
}
  where
    pieces : tally'.pieces ≡ tally.pieces ++ piece ∷ []
    pieces = ap (λ (t : TallyState). t.pieces) is

    range : ℕ × ℕ
    range = clipped parts.counter.n piece

    some_range : (m : ℕ) (it : Addition) → it.begin < m → 1 ≤ it.size → (clipped m it).0 < (clipped m it).1
    some_range m it less one = omega arith

    missing : All (λ it. Contains (ranges_by (reporter parts) pass.known) (clipped parts.counter.n it)) tally'.pieces → ⊥
    missing all =
        let P : Addition → Type 0 = λ it. Contains (ranges_by (reporter parts) pass.known) (clipped parts.counter.n it) in
        let long = some_range parts.counter.n piece below some in
        let there : P piece = All-contains P (tally.pieces ++ piece ∷ []) piece (subst (All P) pieces all) (Contains-push tally.pieces piece) in
        let reported : 1 ≤ times_covered (ranges_by (reporter parts) pass.known) range.0 = covers_there parts.counter.n range long (ranges_by (reporter parts) pass.known) there in
        let among : All (Contains (map (clipped parts.counter.n) tally.pieces)) (ranges_by (reporter parts) pass.known) =
        subst (λ k. All (Contains (map (clipped parts.counter.n) tally.pieces)) (ranges_by k pass.known)) board.number (reports_gathered value parts tally.pieces (calls_by pass.number pass.known) board.reports)
        in
        let covered = among_cover range.0 (ranges_by (reporter parts) pass.known) (map (clipped parts.counter.n) tally.pieces) among reported in
        let none = first_uncovered parts.counter tally tally' piece is gathered range refl long in
        omega (arith, covered, none)

-- ---- what was handed in

pub handed_later : (number : ℕ) (first later : Journal) (range : ℕ × ℕ) (on : Bool) → BeginsWith later first → IsHandedIn number first range on → IsHandedIn number later range on
handed_later number first later range true begins handed = elim handed [
  | inl there ↦ inl (contained_on number first later range begins there)
  | inr strange ↦ inr (strange_on number first later begins strange)
]
handed_later number first later range false begins handed = end_stays first later begins handed

pub handed_ok : {E : Type 0} (number : ℕ) (first later : Journal) (range : ℕ × ℕ) (result : Result Bool E) → BeginsWith later first → IfOk result (IsHandedIn number first range) → IfOk result (IsHandedIn number later range)
handed_ok number first later range (Ok on) begins handed = handed_later number first later range on begins handed
handed_ok number first later range (Err e) begins handed = tt

-- ---- a report

module _ {F : Type 0} (value : F → List ℕ → ItemValue) (parts : EngineParts F) (fits : FitTogether value parts) (has : HasBoard parts) (piece : Addition) (below : piece.begin < parts.counter.n) (some : 1 ≤ piece.size) (listed : Contains parts.sizes piece.size)
    (range : ℕ × ℕ) (range_is : range ≡ clipped parts.counter.n piece) (good : first_bad (work_of value parts) range ≡ None) where
  abbrev work : Workload
  work = work_of value parts

  bounds : (begin size m : ℕ) (r : ℕ × ℕ) → r ≡ (min begin m, min (begin + size) m) → begin < m → 1 ≤ size → (r.0 < r.1) × (r.1 ≤ m)
  bounds begin size m r is less one =
      let first : r.0 ≡ min begin m = ap (λ (x : ℕ × ℕ). x.0) is in
      let last : r.1 ≡ min (begin + size) m = ap (λ (x : ℕ × ℕ). x.1) is in
      (omega arith, omega arith)

  pub part : IsPart (size_of work) range
  part = let both = bounds piece.begin piece.size parts.counter.n range range_is below some in record { some = both.0; within = let is = fits.indexes in let high = both.1 in omega arith }

  block : IsBlock parts.counter.n parts.sizes range
  block = record {
    size = piece.size;
    listed = listed;
    length_is =
        let first : range.0 ≡ min piece.begin parts.counter.n = ap (λ (x : ℕ × ℕ). x.0) range_is in
        let last : range.1 ≡ min (piece.begin + piece.size) parts.counter.n = ap (λ (x : ℕ × ℕ). x.1) range_is in
        elim (cases_lt parts.counter.n (piece.begin + piece.size)) [
          | inl short ↦ inr (omega arith, omega arith)
          | inr whole ↦ inl (omega arith)
        ];
  }

  pub values_few : length (texts_in work range) ≤ range.1 - range.0
  values_few = let p = part in let some = p.some in texts-most work range.0 range.1 (omega arith) p.within

  pub values_whole : parts.future.terms.filter ≡ false → length (texts_in work range) ≡ range.1 - range.0
  values_whole plain = let p = part in let some = p.some in texts-whole work range.0 range.1 (omega arith) p.within (fits.suits (plain_drops parts.kind has.plain ∙ sym fits.filter ∙ plain)) good

  module _ (tally tally' : TallyState) (pass pass' : PassState (List ℕ)) (journal : Journal) (on : Bool) (board : IsBoard value parts tally pass on) (tally_is : tally' ≡ record tally { pieces = tally.pieces ++ piece ∷ [] }) (gathered : IsGathered parts.counter tally')
      (met : Meets pass journal) (pass_is : pass' ≡ record pass { known = pass'.known; seen = [] }) where
    abbrev future : Future (List ℕ)
    future = future_at pass.of.terms journal

    abbrev batch : Batch (List ℕ)
    batch = batch_in work range

    abbrev logged : Logged (List ℕ)
    logged = reported future pass.number batch

    batch_is : range_of batch ≡ range
    batch_is = batch_range work parts.future.terms.filter range part

    pieces_are : tally'.pieces ≡ tally.pieces ++ piece ∷ []
    pieces_are = ap (λ (t : TallyState). t.pieces) tally_is

    ranges_are : map (clipped parts.counter.n) tally'.pieces ≡ map (clipped parts.counter.n) tally.pieces ++ clipped parts.counter.n piece ∷ []
    ranges_are = ap (map (clipped parts.counter.n)) pieces_are ∙ map-append (clipped parts.counter.n) tally.pieces (piece ∷ [])

    logged_of : IsOfPiece work parts.counter.n parts.sizes tally'.pieces logged
    logged_of = record {
      batch = batch;
      reports = refl;
      texts = ap (texts_in work) (sym batch_is);
      good = ap (first_bad work) batch_is ∙ good;
      block = subst (IsBlock parts.counter.n parts.sizes) (sym batch_is) block;
      gathered = subst (λ ranges. Contains ranges (range_of batch)) (sym ranges_are)
          (subst (λ r. Contains (map (clipped parts.counter.n) tally.pieces ++ r ∷ []) (range_of batch)) (batch_is ∙ range_is) (Contains-push (map (clipped parts.counter.n) tally.pieces) (range_of batch)));
    }

    logged_is : IsBoardCall parts.future.terms false work parts.counter.n parts.sizes tally'.pieces logged
    logged_is = record { own = refl; reports = λ report. logged_of; cancels = λ e. absurd (not_cancel _ _ _ e) }
      where
        not_cancel : (begin kept total : ℕ) → Report begin kept total ≡ Cancel → ⊥
        not_cancel begin kept total e = absurd (cc)

    -- a piece that is reported as it is gathered leaves the mark
    marks_more : (old : List (ℕ × ℕ)) → Marks value parts on old tally.pieces → Marks value parts on (old ++ range ∷ []) (tally.pieces ++ piece ∷ [])
    marks_more old mark = (
      λ e. All-push More tally.pieces piece
          (All-weaker (λ it. Contains old (clipped parts.counter.n it)) More (λ it there. Contains-append_left old (range ∷ []) (clipped parts.counter.n it) there) tally.pieces (mark.0 e))
          (subst (Contains (old ++ range ∷ [])) range_is (Contains-push old range)),
      λ all. mark.1 (reported_before parts.counter.n range part.some old tally.pieces (first_uncovered parts.counter tally tally' piece tally_is gathered range range_is part.some) (all_left More tally.pieces (piece ∷ []) all)),
    )
      where
        More : Addition → Type 0
        More it = Contains (old ++ range ∷ []) (clipped parts.counter.n it)

    -- the board where the report was logged
    board_logged : pass'.known ≡ journal ++ logged ∷ [] → IsBoard value parts tally' pass' on
    board_logged known =
        let P = IsBoardCall parts.future.terms false work parts.counter.n parts.sizes tally'.pieces in
        let number : pass'.number ≡ pass.number = ap (λ (p : PassState (List ℕ)). p.number) pass_is in
        let own : calls_by pass'.number pass'.known ≡ calls_by pass.number pass.known ++ logged ∷ [] =
        ap (λ k. calls_by k pass'.known) number ∙ ap (calls_by pass.number) known ∙ calls_by-append pass.number journal (logged ∷ [])
        ∙ ap (λ calls. calls_by pass.number journal ++ calls) (own_call pass.number logged refl) ∙ ap (λ calls. calls ++ logged ∷ []) met.own
        in
        let same : ranges_by (reporter parts) pass'.known ≡ ranges_by (reporter parts) pass.known ++ range ∷ [] =
        ap (λ k. ranges_by k pass'.known) (sym (number ∙ board.number)) ∙ ap (λ (calls : Journal). map range_of (reports_of calls)) own
        ∙ ap (map range_of) (reports-append (calls_by pass.number pass.known) (logged ∷ [])) ∙ map-append range_of (reports_of (calls_by pass.number pass.known)) (batch ∷ [])
        ∙ ap (λ r. ranges_by pass.number pass.known ++ r ∷ []) batch_is ∙ ap (λ k. ranges_by k pass.known ++ range ∷ []) board.number
        in
        record {
          counter = ap (λ (t : TallyState). t.of) tally_is ∙ board.counter;
          future = ap (λ (p : PassState (List ℕ)). p.of) pass_is ∙ board.future;
          number = number ∙ board.number;
          childless = ap (λ (p : PassState (List ℕ)). p.children) pass_is ∙ board.childless;
          opened = begins_further opening pass.known pass'.known board.opened (begins_further pass.known journal pass'.known (saw_begins pass.known journal pass.seen met.saw) (subst (λ k. BeginsWith k journal) (sym known) (begins_more journal (logged ∷ []))));
          reports = subst (All P) (sym own) (All-push P (calls_by pass.number pass.known) logged (reports_more value parts tally.pieces tally'.pieces (piece ∷ []) (calls_by pass.number pass.known) pieces_are board.reports) logged_is);
          mark = subst (λ ranges. Marks value parts on ranges tally'.pieces) (sym same) (subst (Marks value parts on (ranges_by (reporter parts) pass.known ++ range ∷ [])) (sym pieces_are) (marks_more (ranges_by (reporter parts) pass.known) board.mark));
        }

    contains_logged : pass'.known ≡ journal ++ logged ∷ [] → Contains (ranges_by pass.number pass'.known) range
    contains_logged known =
        let one : ranges_by pass.number (logged ∷ []) ≡ range ∷ [] = ap (λ calls. map range_of (reports_of calls)) (own_call pass.number logged refl) ∙ ap (λ r. r ∷ []) batch_is in
        subst (λ ranges. Contains ranges range) (sym (ap (ranges_by pass.number) known ∙ ranges_by-append pass.number journal (logged ∷ []) ∙ ap (λ r. ranges_by pass.number journal ++ r) one))
        (Contains-push (ranges_by pass.number journal) range)

    in_both : (index : ℕ) → range.0 ≤ index → index < range.1 → 1 ≤ times_covered (map (clipped parts.counter.n) tally.pieces) index → ⊥
    in_both index low high covered =
        not_both parts.counter tally tally' piece tally_is gathered index (subst (λ (r : ℕ × ℕ). r.0 ≤ index) range_is low) (subst (λ (r : ℕ × ℕ). index < r.1) range_is high) covered

    -- an index of the piece can't be covered by a report of a gathered piece
    covered_strange : (index : ℕ) → least_covered (results_of future).batches batch.begin batch.total ≡ Some index → list_any (is_strange pass.number) journal ≡ true
    covered_strange index e =
        elim (list_any (is_strange pass.number) journal) as (λ b. list_any (is_strange pass.number) journal ≡ b → b ≡ true) [
          | true ↦ λ is. refl
          | false ↦ λ is. absurd (contradiction is)
        ] refl
      where
        contradiction : list_any (is_strange pass.number) journal ≡ false → ⊥
        contradiction none =
            let found = found_within (is_covered (in_order (reports_of journal))) range.0 (range.1 - range.0) index e in
            let p = part in
            let less = p.some in
            let reports : reports_of journal ≡ reports_of (calls_by pass.number pass.known) = none_strange pass.number journal none ∙ ap reports_of met.own in
            let covered : is_covered (reports_of (calls_by pass.number pass.known)) index ≡ true = ap (λ batches. is_covered batches index) (sym reports) ∙ sym (is_covered-in_order (reports_of journal) index) ∙ found.2 in
            let among = reports_gathered value parts tally.pieces (calls_by pass.number pass.known) board.reports in
            let some_range : 1 ≤ times_covered (map range_of (reports_of (calls_by pass.number pass.known))) index = by (dec_lt 0 (times_covered (map range_of (reports_of (calls_by pass.number pass.known))) index)) covered in
            in_both index found.0 (let high = found.1 in omega arith) (among_cover index (map range_of (reports_of (calls_by pass.number pass.known))) (map (clipped parts.counter.n) tally.pieces) among some_range)
          where
            by : Dec (0 < times_covered (map range_of (reports_of (calls_by pass.number pass.known))) index) → is_covered (reports_of (calls_by pass.number pass.known)) index ≡ true → 1 ≤ times_covered (map range_of (reports_of (calls_by pass.number pass.known))) index
            by (yes more) covered = more
            by (no none) covered = absurd (false≢true (sym (none_covers (reports_of (calls_by pass.number pass.known)) index (omega arith)) ∙ covered))

    pub board_reports : (reply : Reply) → IsStep (offered future pass.number batch) (future_at pass.of.terms pass'.known) (told_by reply)
        → IsBoard value parts tally' pass' (on && is_accepted (told_by reply)) × IsHandedIn (reporter parts) pass'.known range (not (is_drop (told_by reply)))
    board_reports reply done =
        let p = part in
        let some_left = p.some in
        let within = p.within in
        let limit = fits.limits.indexes in
        let is = fits.indexes in
        elim (comes future pass.number batch (omega arith) (omega arith)) [
          | is_over ended same drop taken ↦
              let known : pass'.known ≡ journal = ap (λ (f : Future (List ℕ)). f.calls) (done.future ∙ same) in (
                marked_none (ap is_accepted done.answer ∙ taken) (board_leaves value parts tally tally' pass' on piece below some (board_met value parts tally pass pass' on journal board met known pass_is) tally_is gathered),
                told true (ap is_drop done.answer ∙ drop) (ap (λ k. shows_end (flags_at k)) known ∙ ended),
              )
          | is_taken index e same drop taken ↦
              let known : pass'.known ≡ journal = ap (λ (f : Future (List ℕ)). f.calls) (done.future ∙ same) in (
                marked_none (ap is_accepted done.answer ∙ taken) (board_leaves value parts tally tally' pass' on piece below some (board_met value parts tally pass pass' on journal board met known pass_is) tally_is gathered),
                told false (ap is_drop done.answer ∙ drop) (inr (subst (λ k. list_any (is_strange k) pass'.known ≡ true) board.number (ap (list_any (is_strange pass.number)) known ∙ covered_strange index e))),
              )
          | is_logged new drop taken ↦
              let known : pass'.known ≡ journal ++ logged ∷ [] = ap (λ (f : Future (List ℕ)). f.calls) (done.future ∙ new) in (
                marked_on (ap is_accepted done.answer ∙ taken) (board_logged known),
                told false (ap is_drop done.answer ∙ drop) (inl (subst (λ k. Contains (ranges_by k pass'.known) range) board.number (contains_logged known))),
              )
        ]
      where
        and_false : (b : Bool) → (b && false) ≡ false
        and_false b = grind arith

        and_true : (b : Bool) → (b && true) ≡ b
        and_true b = grind arith

        marked_none : is_accepted (told_by reply) ≡ false → IsBoard value parts tally' pass' false → IsBoard value parts tally' pass' (on && is_accepted (told_by reply))
        marked_none e is = subst (IsBoard value parts tally' pass') (sym (ap (λ b. on && b) e ∙ and_false on)) is

        marked_on : is_accepted (told_by reply) ≡ true → IsBoard value parts tally' pass' on → IsBoard value parts tally' pass' (on && is_accepted (told_by reply))
        marked_on e is = subst (IsBoard value parts tally' pass') (sym (ap (λ b. on && b) e ∙ and_true on)) is

        told : (drop : Bool) → is_drop (told_by reply) ≡ drop → IsHandedIn (reporter parts) pass'.known range (not drop) → IsHandedIn (reporter parts) pass'.known range (not (is_drop (told_by reply)))
        told drop e handed = subst (λ b. IsHandedIn (reporter parts) pass'.known range (not b)) (sym e) handed

-- ---- as the code has it

pub ok_from : {X E : Type 0} (P : X → Type 0) (result : Result X E) (x : X) → result ≡ Ok x → IfOk result P → P x
ok_from P result x is ok = subst (λ r. IfOk r P) is ok

pub err_from : {X E : Type 0} (P : Type 0) (result : Result X E) (e : E) → result ≡ Err e → OnErr result P → P
err_from P result e is err = subst (λ r. OnErr r P) is err

pub batch_is_in : (job : Workload) (range : ℕ × ℕ) (begin end : ℕ) (values : List (List ℕ)) → (begin, end) ≡ range → values ≡ texts_in job range → batch_with begin values (end - begin) ≡ batch_in job range
batch_is_in job range begin end values bounds values_are =
    let first : begin ≡ range.0 = ap (λ (r : ℕ × ℕ). r.0) bounds in
    let last : end ≡ range.1 = ap (λ (r : ℕ × ℕ). r.1) bounds in
    λ i. batch_with (first i) (values_are i) (last i - first i)

module _ {F : Type 0} (value : F → List ℕ → ItemValue) (parts : EngineParts F) (fits : FitTogether value parts) (has : HasBoard parts) (piece : PieceState) (is : IsPieceOf parts piece) (begin end : ℕ) (values : List (List ℕ)) (bounds : (begin, end) ≡ clipped piece.of.n piece.addition)
    (values_are : values ≡ texts_in (work_of value parts) (range_in parts piece)) (good : first_bad (work_of value parts) (range_in parts piece) ≡ None) where
  bounds_are : (begin, end) ≡ range_in parts piece
  bounds_are = bounds ∙ ap (λ (c : CounterId). clipped c.n piece.addition) is.of

  pub code_few : length values ≤ end - begin
  code_few =
      let few = values_few value parts fits has piece.addition is.below is.some is.listed (range_in parts piece) refl good in
      let first : begin ≡ (range_in parts piece).0 = ap (λ (r : ℕ × ℕ). r.0) bounds_are in
      let last : end ≡ (range_in parts piece).1 = ap (λ (r : ℕ × ℕ). r.1) bounds_are in
      let long : length values ≡ length (texts_in (work_of value parts) (range_in parts piece)) = ap length values_are in
      omega (arith, few, first, last, long)

  pub code_whole : parts.future.terms.filter ≡ false → length values ≡ end - begin
  code_whole plain =
      let whole = values_whole value parts fits has piece.addition is.below is.some is.listed (range_in parts piece) refl good plain in
      let first : begin ≡ (range_in parts piece).0 = ap (λ (r : ℕ × ℕ). r.0) bounds_are in
      let last : end ≡ (range_in parts piece).1 = ap (λ (r : ℕ × ℕ). r.1) bounds_are in
      let long : length values ≡ length (texts_in (work_of value parts) (range_in parts piece)) = ap length values_are in
      omega (arith, whole, first, last, long)

  pub code_reports : (tally tally' : TallyState) (pass pass' : PassState (List ℕ)) (journal : Journal) (on : Bool) → IsBoard value parts tally pass on → tally' ≡ record tally { pieces = tally.pieces ++ piece.addition ∷ [] } → IsGathered parts.counter tally'
      → Meets pass journal → pass' ≡ record pass { known = pass'.known; seen = [] } → (reply : Reply)
      → IsStep (step (future_at pass.of.terms journal) pass.number (ReportBatch begin values (end - begin))) (future_at pass.of.terms pass'.known) (told_by reply)
      → IsBoard value parts tally' pass' (on && is_accepted (told_by reply)) × IsHandedIn (reporter parts) pass'.known (range_in parts piece) (not (is_drop (told_by reply)))
  code_reports tally tally' pass pass' journal on board tally_is gathered met pass_is reply done =
      board_reports value parts fits has piece.addition is.below is.some is.listed (range_in parts piece) refl good tally tally' pass pass' journal on board tally_is gathered met pass_is reply
      (subst (λ batch. IsStep (offered (future_at pass.of.terms journal) pass.number batch) (future_at pass.of.terms pass'.known) (told_by reply)) (batch_is_in (work_of value parts) (range_in parts piece) begin end values bounds_are values_are) done)

-- What follows once all desks of an engine were brought in.
use Rattle.std.proofs.Common.{◌≡◌, ◌≢◌, ◌⊎◌, ℕ, ◌+◌, ◌<◌, ◌≤◌, Bool, true, false, ◌&&◌, ◌==◌, nat_lt, nat_le, List, [], ◌∷◌, ◌++◌, Option, None, Some, All, map, fold, if◌then◌else◌, inl, inr, refl, ap, sym, ◌∙◌, subst, arith, append-nil, not, ◌||◌, IsTrue}
use Rattle.std.specs.Prelude.{Contains}
use Rattle.std.specs.Option.{option_or}
use native.Mathlib.Decide.{dec_lt}
use Rattle.std.proofs.lemmas.Bool.{false≢true}
use Rattle.std.proofs.lemmas.Bool.Decides.{nat_tests}
use Rattle.std.proofs.lemmas.List.{map-append}
use Rattle.std.proofs.lemmas.List.Elements.{All-append, All-cons, All-head, All-map, All-nil, All-push, All-tail, All-weaker}
use Rattle.qtc_base.specs.Ranges.{Tiles, in_range, times_covered}
use Rattle.qtc_claim.specs.Claims.{Addition, AreParts, claims_of, clipped, gave}
use Rattle.qtc_claim.specs.Counter.{CounterId, TallyState}
use Rattle.qtc_claim.specs.Rule.{covering}
use Rattle.qtc_claim.proofs.Sums.{times_below, times_past}
use Rattle.qtc_events.specs.Flags.{Standing}
use Rattle.qtc_events.specs.Calls.{after}
use Rattle.qtc_events.specs.declared.calls.Call.{Call}
use Rattle.qtc_events.specs.declared.calls.Call.TheVariants.{Start, Report, Account, Suspend, Resume, ReportSuspended, Cancel, Fail, Finish}
use Rattle.qtc_events.specs.declared.entries.Reached.{Reached}
use Rattle.qtc_store.specs.Batches.{AreApart, end_of, in_order, placed}
use Rattle.qtc_store.specs.Stored.{IsFirstResults}
use Rattle.qtc_store.specs.declared.batch.Batch.{Batch}
use Rattle.qtc_store.proofs.First.{first_results}
use Rattle.qtc_store.proofs.Keeping.{batches_keep_results}
use Rattle.qtc_store.proofs.Offers.{is_covered-in_order}
use Rattle.qtc_future.specs.Legal.{IsLegal}
use Rattle.qtc_future.specs.Future.{Future, Logged, batch_of, batches_in, failure_in, failure_of_call, flags_of, reports_of, results_of}
use Rattle.qtc_future.specs.declared.replies.Failure.{Failure}
use Rattle.qtc_future.proofs.Staying.{legal_store}
use Rattle.qtc_shared.specs.Journals.{IsAllowed, IsJournal, calls_by, flags_at, is_makers}
use Rattle.qtc_shared.specs.Parts.{Terms, future_at}
use Rattle.qtc_kernel.specs.EngineParts.{IsBoardCall, IsFailedCall, IsOfPiece, IsOwnCall, is_report, ranges_by}
use Rattle.qtc_kernel.specs.OwnPasses.{board_makes, desk_makes, end_makes, engine_makes, is_reduced}
use Rattle.qtc_kernel.specs.declared.kinds.Kind.{Kind}
use Rattle.qtc_kernel.proofs.OwnPasses.{plain_passes}
use Rattle.qtc_kernel.specs.BroughtIn.{AreBroughtIn, DesksAreWorkedOut, IsUncovered}
use Rattle.qtc_kernel.specs.Laws.{AreCalledOnce}
use Rattle.qtc_kernel.specs.Runs.{HasTexts, IsBlock, range_of, reported_ranges, times_called}
use Rattle.qtc_kernel.specs.WorkedOut.{IsOfEngine, IsOfOthers, IsWhole, IsWorkedOut}
use Rattle.qtc_kernel.specs.Workload.{Workload, first_bad, is_bad, item_at, kept_texts, size_of}
use Rattle.qtc_kernel.proofs.Counting.{covers, times-append, times-cons}
use Rattle.qtc_kernel.proofs.Finding.{none_bad}
use Rattle.qtc_kernel.proofs.Gathering.{all_left, among_cover}
use Rattle.qtc_kernel.proofs.Kept.{texts-all}
use Rattle.qtc_kernel.proofs.Passing.{Journal, reports-append}
use Rattle.qtc_kernel.proofs.Asking.{canceled_stays}
use Rattle.qtc_future.proofs.OneMore.{failure-push}
use Rattle.qtc_kernel.proofs.Tiled.{all_in_order, none_covers, one_covers, shown}
use Rattle.qtc_kernel.proofs.Whole.{none_fails}

-- ---- whose calls they are

-- a batch that the engine may report: the values of a gathered piece
record IsGood (work : Workload) (n : ℕ) (sizes : List ℕ) (pieces : List Addition) (batch : Batch (List ℕ)) : Type 0 where
  texts : HasTexts work batch
  good : first_bad work (range_of batch) ≡ None
  block : IsBlock n sizes (range_of batch)
  gathered : Contains (map (clipped n) pieces) (range_of batch)

module _ (kind : Kind) (terms : Terms) (work : Workload) (n : ℕ) (sizes : List ℕ) (pieces : List Addition) (workers : ℕ) (called : List ℕ) where
  abbrev OfPiece : Logged (List ℕ) → Type 0
  OfPiece logged = IsBoardCall terms false work n sizes pieces logged

  abbrev Own : Logged (List ℕ) → Type 0
  Own logged = IsOwnCall kind terms work false called logged

  -- the call of a pass of the engine is one that the board may make, or one that a desk may; of others' passes just those
  -- that anyone may call
  pub record IsOurs (logged : Logged (List ℕ)) : Type 0 where
    pub ours : logged.entry.caller < workers + 1 → OfPiece logged ⊎ Own logged
    pub allowed : IsAllowed (workers + 1) logged

  head_by : (number : ℕ) (logged : Logged (List ℕ)) (journal : Journal) → logged.entry.caller ≡ number → calls_by number (logged ∷ journal) ≡ logged ∷ calls_by number journal
  head_by number logged journal is = let same : (logged.entry.caller == number) ≡ true = grind (arith, nat_tests) in rw same refl

  pub tail_by : (P : Logged (List ℕ) → Type 0) (number : ℕ) (logged : Logged (List ℕ)) (journal : Journal) → All P (calls_by number (logged ∷ journal)) → All P (calls_by number journal)
  tail_by P number logged journal all =
      elim (logged.entry.caller == number) as (λ b. All P (if b then logged ∷ calls_by number journal else calls_by number journal) → All P (calls_by number journal)) [
        | true ↦ λ h. All-tail P logged (calls_by number journal) h
        | false ↦ λ h. h
      ] all

  pub all_ours : (journal : Journal) → All OfPiece (calls_by workers journal) → ((number : ℕ) → number < workers → All Own (calls_by number journal)) → All (IsAllowed (workers + 1)) journal → All IsOurs journal
  all_ours [] board own allowed = All-nil IsOurs
  all_ours (logged ∷ journal) board own allowed =
      All-cons IsOurs logged journal (record { ours = λ below. by (dec_lt logged.entry.caller workers) below; allowed = All-head (IsAllowed (workers + 1)) logged journal allowed })
      (all_ours journal (tail_by OfPiece workers logged journal board) (λ number below. tail_by Own number logged journal (own number below)) (All-tail (IsAllowed (workers + 1)) logged journal allowed))
    where
      by : Dec (logged.entry.caller < workers) → logged.entry.caller < workers + 1 → OfPiece logged ⊎ Own logged
      by (yes less) below = inr (All-head Own logged (calls_by logged.entry.caller journal) (subst (All Own) (head_by logged.entry.caller logged journal refl) (own logged.entry.caller less)))
      by (no more) below = inl (All-head OfPiece logged (calls_by workers journal) (subst (All OfPiece) (head_by workers logged journal (omega arith)) board))

  -- ---- what follows for each kind of call

  -- a report is of a gathered piece
  good_batches : (logged : Logged (List ℕ)) → IsOurs logged → All (IsGood work n sizes pieces) (batches_in logged)
  good_batches logged ours = by logged.entry.call refl
    where
      Good : Batch (List ℕ) → Type 0
      Good = IsGood work n sizes pieces

      of_piece : IsOfPiece work n sizes pieces logged → All Good (batches_in logged)
      of_piece is = subst (All Good) (sym is.reports) (All-cons Good is.batch [] (record { texts = is.texts; good = is.good; block = is.block; gathered = is.gathered }) (All-nil Good))

      none : batches_in logged ≡ [] → All Good (batches_in logged)
      none is = subst (All Good) (sym is) (All-nil Good)

      by : (call : Call) → logged.entry.call ≡ call → All Good (batches_in logged)
      by (Report begin kept total) is =
          let below : logged.entry.caller < workers + 1 = ours.allowed.maker (ap is_makers is) in
          elim (ours.ours below) [
            | inl board ↦ of_piece (board.reports (ap is_report is))
            | inr own ↦ absurd (false≢true (sym (ap (desk_makes kind terms) is) ∙ own.own))
          ]
      by Start is = none (ap (λ call. batch_of call logged.values) is)
      by (Account total) is = none (ap (λ call. batch_of call logged.values) is)
      by Suspend is = none (ap (λ call. batch_of call logged.values) is)
      by Resume is = none (ap (λ call. batch_of call logged.values) is)
      by ReportSuspended is = none (ap (λ call. batch_of call logged.values) is)
      by Cancel is = none (ap (λ call. batch_of call logged.values) is)
      by (Fail index) is = none (ap (λ call. batch_of call logged.values) is)
      by Finish is = none (ap (λ call. batch_of call logged.values) is)

  all_good : (journal : Journal) → All IsOurs journal → All (IsGood work n sizes pieces) (reports_of journal)
  all_good [] ours = All-nil (IsGood work n sizes pieces)
  all_good (logged ∷ journal) ours =
      All-append (IsGood work n sizes pieces) (batches_in logged) (reports_of journal)
      (good_batches logged (All-head IsOurs logged journal ours))
      (all_good journal (All-tail IsOurs logged journal ours))

  -- a cancel is of another pass
  others_cancel : (logged : Logged (List ℕ)) → IsOurs logged → IsOfOthers (workers + 1) logged
  others_cancel logged ours = record { others = λ is. by (dec_lt logged.entry.caller (workers + 1)) is }
    where
      by : Dec (logged.entry.caller < workers + 1) → logged.entry.call ≡ Cancel → workers + 1 ≤ logged.entry.caller
      by (yes below) is = elim (ours.ours below) [
        | inl board ↦ absurd (false≢true (board.cancels is))
        | inr own ↦ absurd (false≢true (own.cancels is))
      ]
      by (no past) is = omega arith

  -- a fail is of a bad item
  failing_of : (logged : Logged (List ℕ)) (failure : Failure) → IsOurs logged → failure_of_call logged.entry.call logged.item ≡ Some failure → IsFailedCall work called failure
  failing_of logged failure ours e = by logged.entry.call refl e
    where
      by : (call : Call) → logged.entry.call ≡ call → failure_of_call call logged.item ≡ Some failure → IsFailedCall work called failure
      by (Fail index) is e =
          let below : logged.entry.caller < workers + 1 = ours.allowed.maker (ap is_makers is) in
          let same : record { index = index; item = logged.item } ≡ failure = cc in
          elim (ours.ours below) [
            | inl board ↦ absurd (false≢true (sym (ap (board_makes terms) is) ∙ board.own))
            | inr own ↦ subst (IsFailedCall work called) same (own.fails index is)
          ]
      by Start is e = absurd (cc)
      by (Report begin kept total) is e = absurd (cc)
      by (Account total) is e = absurd (cc)
      by Suspend is e = absurd (cc)
      by Resume is e = absurd (cc)
      by ReportSuspended is e = absurd (cc)
      by Cancel is e = absurd (cc)
      by Finish is e = absurd (cc)

  all_failing : (journal : Journal) (failure : Failure) → All IsOurs journal → failure_in journal ≡ Some failure → IsFailedCall work called failure
  all_failing [] failure ours e = absurd (cc)
  all_failing (logged ∷ journal) failure ours e =
      by (failure_of_call logged.entry.call logged.item) refl e (all_failing journal failure (All-tail IsOurs logged journal ours))
    where
      by : (o : Option Failure) → failure_of_call logged.entry.call logged.item ≡ o → option_or o (failure_in journal) ≡ Some failure → (failure_in journal ≡ Some failure → IsFailedCall work called failure) → IsFailedCall work called failure
      by (Some first) is e rest = failing_of logged failure (All-head IsOurs logged journal ours) (is ∙ e)
      by None is e rest = rest e

  -- no pass finished it
  pub not_finish : (logged : Logged (List ℕ)) → IsOurs logged → logged.entry.call ≢ Finish
  not_finish logged ours is =
      let below : logged.entry.caller < workers + 1 = ours.allowed.maker (ap is_makers is) in
      elim (ours.ours below) [
        | inl board ↦ false≢true (sym (ap (board_makes terms) is) ∙ board.own)
        | inr own ↦ false≢true (sym (ap (desk_makes kind terms) is) ∙ own.own)
      ]

  -- what a pass of the engine called is what such a pass makes
  of_engine : is_reduced kind ≡ false → (logged : Logged (List ℕ)) → IsOurs logged → logged.entry.caller < workers + 1 → IsTrue (engine_makes kind terms logged.entry.call)
  of_engine plain logged ours below = elim (ours.ours below) [
    | inl board ↦ by_board (desk_makes kind terms logged.entry.call) (is_reduced kind) (board_makes terms logged.entry.call) (end_makes kind terms logged.entry.call) plain board.own
    | inr own ↦ by_desk (desk_makes kind terms logged.entry.call) ((not (is_reduced kind) && board_makes terms logged.entry.call) || end_makes kind terms logged.entry.call) own.own
  ]
    where
      by_desk : (a b : Bool) → a ≡ true → (a || b) ≡ true
      by_desk a b h = grind arith

      by_board : (a r b e : Bool) → r ≡ false → b ≡ true → (a || ((not r && b) || e)) ≡ true
      by_board a r b e plain h = grind arith

pub unfinished_after : (s : Standing) (call : Call) (reached : Reached) → call ≢ Finish → s.finished ≡ false → (after s call reached).finished ≡ false
unfinished_after s Start reached other none = grind arith
unfinished_after s (Report begin kept total) reached other none = grind arith
unfinished_after s (Account total) reached other none = grind arith
unfinished_after s Suspend reached other none = grind arith
unfinished_after s Resume reached other none = grind arith
unfinished_after s ReportSuspended reached other none = grind arith
unfinished_after s Cancel reached other none = grind arith
unfinished_after s (Fail index) reached other none = grind arith
unfinished_after s Finish reached other none = absurd (other refl)

-- ---- batches of a store meet nowhere

times_placed : (index : ℕ) (batches : List (Batch (List ℕ))) (batch : Batch (List ℕ)) → times_covered (map range_of (placed batches batch)) index ≡ covers index (range_of batch) + times_covered (map range_of batches) index
times_placed index [] batch = times-cons index (range_of batch) []
times_placed index (first ∷ batches) batch =
    elim (nat_lt batch.begin first.begin) as (λ b. times_covered (map range_of (if b then batch ∷ first ∷ batches else first ∷ placed batches batch)) index ≡ covers index (range_of batch) + times_covered (map range_of (first ∷ batches)) index) [
      | true ↦ times-cons index (range_of batch) (map range_of (first ∷ batches))
      | false ↦
          let rest = times_placed index batches batch in
          let one = times-cons index (range_of first) (map range_of (placed batches batch)) in
          let all = times-cons index (range_of first) (map range_of batches) in
          omega arith
    ]

times_fold : (index : ℕ) (start batches : List (Batch (List ℕ))) → times_covered (map range_of (fold placed start batches)) index ≡ times_covered (map range_of start) index + times_covered (map range_of batches) index
times_fold index start [] = omega arith
times_fold index start (batch ∷ batches) =
    let rest = times_fold index (placed start batch) batches in
    let one = times_placed index start batch in
    let all = times-cons index (range_of batch) (map range_of batches) in
    omega arith

apart_low : (index low : ℕ) (batches : List (Batch (List ℕ))) → AreApart low batches → index < low → times_covered (map range_of batches) index ≡ 0
apart_low index low [] apart less = refl
apart_low index low (batch ∷ batches) apart less =
    let one = times-cons index (range_of batch) (map range_of batches) in
    let none : covers index (batch.begin, end_of batch) ≡ 0 = before index batch.begin (end_of batch) (let low_is = apart.0 in omega arith) in
    let rest = apart_low index (end_of batch) batches apart.2 (let low_is = apart.0 in let some = apart.1 in omega arith) in
    omega arith
  where
    before : (index begin end : ℕ) → index < begin → covers index (begin, end) ≡ 0
    before index begin end less = grind (arith, nat_tests)

apart_once : (index low : ℕ) (batches : List (Batch (List ℕ))) → AreApart low batches → times_covered (map range_of batches) index ≤ 1
apart_once index low [] apart = omega arith
apart_once index low (batch ∷ batches) apart = by (dec_lt index (end_of batch)) (apart_once index (end_of batch) batches apart.2)
  where
    one : times_covered (map range_of (batch ∷ batches)) index ≡ covers index (range_of batch) + times_covered (map range_of batches) index
    one = times-cons index (range_of batch) (map range_of batches)

    most : (index begin end : ℕ) → covers index (begin, end) ≤ 1
    most index begin end = grind (arith, nat_tests)

    past : (index begin end : ℕ) → end ≤ index → covers index (begin, end) ≡ 0
    past index begin end h = grind (arith, nat_tests)

    by : Dec (index < end_of batch) → times_covered (map range_of batches) index ≤ 1 → times_covered (map range_of (batch ∷ batches)) index ≤ 1
    by (yes less) rest = let none = apart_low index (end_of batch) batches apart.2 less in let few = most index batch.begin (end_of batch) in let all = one in omega arith
    by (no more) rest = let none = past index batch.begin (end_of batch) (omega arith) in let all = one in omega arith

bounds_in : (index begin end : ℕ) → (nat_le begin index && nat_lt index end) ≡ true → (begin ≤ index) × (index < end)
bounds_in index begin end e = (grind (arith, nat_tests), grind (arith, nat_tests))

outside_of : (index begin end : ℕ) → (nat_le begin index && nat_lt index end) ≡ false → covers index (begin, end) ≡ 0
outside_of index begin end e = grind (arith, nat_tests)

-- ---- all together

-- what one number reported covers no more than what all did
pub times_by : (number : ℕ) (journal : Journal) (index : ℕ) → times_covered (ranges_by number journal) index ≤ times_covered (map range_of (reports_of journal)) index
times_by number [] index = omega arith
times_by number (logged ∷ journal) index =
    let rest = times_by number journal index in
    let all = times_both (batches_in logged) (reports_of journal) in
    elim (logged.entry.caller == number) as (λ b. times_covered (map range_of (reports_of (if b then logged ∷ calls_by number journal else calls_by number journal))) index ≤ times_covered (map range_of (batches_in logged ++ reports_of journal)) index) [
      | true ↦ let some = times_both (batches_in logged) (reports_of (calls_by number journal)) in omega (arith, rest, all, some)
      | false ↦ omega (arith, rest, all)
    ]
  where
    times_both : (xs ys : List (Batch (List ℕ))) → times_covered (map range_of (xs ++ ys)) index ≡ times_covered (map range_of xs) index + times_covered (map range_of ys) index
    times_both xs ys = ap (λ ranges. times_covered ranges index) (map-append range_of xs ys) ∙ times-append index (map range_of xs) (map range_of ys)

-- each index was reported once at most
pub reported_once : (future : Future (List ℕ)) → IsLegal future → (index : ℕ) → times_covered (reported_ranges future) index ≤ 1
reported_once future legal index =
    let store = legal_store (batches_keep_results _) future legal in
    let once = apart_once index 0 (in_order (reports_of future.calls)) store.apart in
    let same = times_fold index [] (reports_of future.calls) in
    let none : times_covered (map range_of []) index ≡ 0 = refl in
    omega (arith, once, same, none)

-- an index of a good batch has no bad item
good_at : (work : Workload) (n : ℕ) (sizes : List ℕ) (pieces : List Addition) (batches : List (Batch (List ℕ))) (index : ℕ) → All (IsGood work n sizes pieces) batches → 1 ≤ times_covered (map range_of batches) index → is_bad (work.value (item_at work index)) ≡ false
good_at work n sizes pieces [] index all some = absurd (omega arith)
good_at work n sizes pieces (batch ∷ batches) index all some =
    let head = All-head (IsGood work n sizes pieces) batch batches all in
    let parts = times-cons index (range_of batch) (map range_of batches) in
    elim (in_range index (range_of batch)) as (λ b. in_range index (range_of batch) ≡ b → is_bad (work.value (item_at work index)) ≡ false) [
      | true ↦ λ e. let at = bounds_in index batch.begin (end_of batch) e in none_bad work (range_of batch) index head.good at.0 at.1
      | false ↦ λ e. good_at work n sizes pieces batches index (All-tail (IsGood work n sizes pieces) batch batches all) (let none = outside_of index batch.begin (end_of batch) e in omega arith)
    ] refl

not_cancel : Cancel ≡ Finish → ⊥
not_cancel e = absurd (cc)

going_before : (b c : Bool) → (b ≡ true → c ≡ true) → c ≡ false → b ≡ false
going_before true c h e = absurd (false≢true (sym e ∙ h refl))
going_before false c h e = refl

module _ (job : Workload) (shares : List ℕ) (kind : Kind) (terms : Terms) (journal : Journal) (counter : CounterId) (tally : TallyState) (calls : List ℕ) (finish : Logged (List ℕ)) (b : AreBroughtIn job shares kind terms journal counter tally calls) (is_finish : finish.entry.call ≡ Finish) (lawful : IsJournal terms (journal ++ finish ∷ [])) where
  abbrev m : ℕ
  m = counter.n

  abbrev claims : List Addition
  claims = claims_of tally.workers

  abbrev whole : Journal
  whole = journal ++ finish ∷ []

  abbrev future : Future (List ℕ)
  future = future_at terms whole

  makers_are : terms.makers ≡ counter.workers + 1
  makers_are = b.makers ∙ plain_passes kind counter.workers b.plain

  allowed : All (IsAllowed (counter.workers + 1)) journal
  allowed = subst (λ makers. All (IsAllowed makers) journal) makers_are (all_left (IsAllowed terms.makers) journal (finish ∷ []) lawful.allowed)

  ours : All (IsOurs kind terms job m shares tally.pieces counter.workers calls) journal
  ours = all_ours kind terms job m shares tally.pieces counter.workers calls journal b.reports b.own allowed

  good : All (IsGood job m shares tally.pieces) (reports_of journal)
  good = all_good kind terms job m shares tally.pieces counter.workers calls journal ours

  reports_are : reports_of whole ≡ reports_of journal
  reports_are =
      reports-append journal (finish ∷ [])
      ∙ ap (λ (batches : List (Batch (List ℕ))). reports_of journal ++ (batches ++ [])) (ap (λ call. batch_of call finish.values) is_finish)
      ∙ append-nil (reports_of journal)

  ranges_are : reported_ranges future ≡ map range_of (reports_of journal)
  ranges_are = ap (map range_of) reports_are

  apart : (index : ℕ) → times_covered (map range_of (reports_of journal)) index ≤ 1
  apart index = subst (λ ranges. times_covered ranges index ≤ 1) ranges_are (reported_once future lawful.legal index)

  of_pieces : All (Contains (map (clipped m) tally.pieces)) (map range_of (reports_of journal))
  of_pieces =
      All-map (Contains (map (clipped m) tally.pieces)) range_of (reports_of journal)
      (All-weaker (IsGood job m shares tally.pieces) (λ batch. Contains (map (clipped m) tally.pieces) (range_of batch)) (λ batch is. is.gathered) (reports_of journal) good)

  within : (index : ℕ) → m ≤ index → times_covered (map range_of (reports_of journal)) index ≡ 0
  within index past = by (dec_lt 0 (times_covered (map range_of (reports_of journal)) index))
    where
      by : Dec (0 < times_covered (map range_of (reports_of journal)) index) → times_covered (map range_of (reports_of journal)) index ≡ 0
      by (yes more) =
          let some : 1 ≤ times_covered (map (clipped m) tally.pieces) index = among_cover index (map range_of (reports_of journal)) (map (clipped m) tally.pieces) of_pieces more in
          let none = times_past index m tally.pieces past in
          absurd (omega arith)
      by (no none) = omega arith

  given_parts : AreParts tally.pieces b.knows.pieces.0 (gave m claims)
  given_parts = subst (λ (c : CounterId). AreParts tally.pieces b.knows.pieces.0 (gave c.n claims)) b.of b.knows.pieces.1

  -- what a report covers is in no claim that was left
  none_left : (index : ℕ) (left : List Addition) → All (IsUncovered m journal) left → 1 ≤ times_covered (map range_of (reports_of journal)) index → times_covered (map (clipped m) left) index ≡ 0
  none_left index [] all some = refl
  none_left index (claim ∷ claims) all some =
      let rest = none_left index claims (All-tail (IsUncovered m journal) claim claims all) some in
      let parts = times-cons index (clipped m claim) (map (clipped m) claims) in
      elim (in_range index (clipped m claim)) as (λ b. in_range index (clipped m claim) ≡ b → times_covered (map (clipped m) (claim ∷ claims)) index ≡ 0) [
        | true ↦ λ e. let at = bounds_in index (clipped m claim).0 (clipped m claim).1 e in let none = All-head (IsUncovered m journal) claim claims all index at.0 at.1 in absurd (omega (arith, none, some))
        | false ↦ λ e. let none = outside_of index (clipped m claim).0 (clipped m claim).1 e in omega (arith, none, rest, parts)
      ] refl

  covered : (index : ℕ) → times_covered (map range_of (reports_of journal)) index ≤ times_called calls index
  covered index = by (dec_lt 0 (times_covered (map range_of (reports_of journal)) index)) (dec_lt index m)
    where
      by : Dec (0 < times_covered (map range_of (reports_of journal)) index) → Dec (index < m) → times_covered (map range_of (reports_of journal)) index ≤ times_called calls index
      by (yes more) (yes below) =
          let some : 1 ≤ times_covered (map (clipped m) tally.pieces) index = among_cover index (map range_of (reports_of journal)) (map (clipped m) tally.pieces) of_pieces more in
          let none = none_left index b.left b.uncovered more in
          let one = b.gathered.pieces.once_below index in
          let once = apart index in
          let sums = given_parts.once (covering index) in
          let pieces = times_below index m tally.pieces below in
          let given = times_below index m (gave m claims) below in
          let least = b.least index in
          omega arith
      by (yes more) (no past) = let none = within index (omega arith) in omega arith
      by (no none) below = omega arith

  once : AreCalledOnce job calls
  once = record {
    once = λ index. let most = b.most index in let one = b.gathered.claims.once_below index in omega arith;
    none = λ index past. let most = b.most index in let none = times_past index m claims (let is = b.indexes in omega arith) in omega arith;
  }

  module _ (going : (flags_of future).canceled ≡ false) where
    going_then : (flags_at journal).canceled ≡ false
    going_then = going_before (flags_at journal).canceled (flags_of future).canceled (canceled_stays (future_at terms journal) finish) going

    each : (index : ℕ) → index < size_of job → times_covered (map range_of (reports_of journal)) index ≡ 1
    each index less =
        let one = (b.tiled going_then).once index (let is = b.indexes in omega arith) in
        let most = times_by counter.workers journal index in
        let few = apart index in
        omega (arith, one, most, few)

    past_none : (index : ℕ) → size_of job ≤ index → times_covered (map range_of (reports_of journal)) index ≡ 0
    past_none index past = within index (let is = b.indexes in omega arith)

    is_whole : IsWhole job future calls
    is_whole = record {
      good = none_fails job (λ index less. good_at job m shares tally.pieces (reports_of journal) index good (let one = each index less in omega arith));
      called = λ index less. let one = each index less in let some = covered index in let most = once.once index in omega arith;
      tiled = subst (λ ranges. Tiles ranges (size_of job)) (sym ranges_are) (record { once = each; none = past_none });
      results = results_are;
    }
      where
        results_are : IsFirstResults (results_of future) (kept_texts job)
        results_are =
            let store = legal_store (batches_keep_results _) future lawful.legal in
            let batches = reports_of whole in
            let texts : All (HasTexts job) batches = subst (All (HasTexts job)) (sym reports_are) (All-weaker (IsGood job m shares tally.pieces) (HasTexts job) (λ batch is. is.texts) (reports_of journal) good) in
            let all = shown job 0 (in_order batches) store.apart (all_in_order (HasTexts job) batches texts) (omega arith)
            (λ index low less. is_covered-in_order batches index ∙ one_covers batches index (let one = each index less in let is : times_covered (map range_of batches) index ≡ times_covered (map range_of (reports_of journal)) index = ap (λ bs. times_covered (map range_of bs) index) reports_are in omega arith))
            (λ index past. is_covered-in_order batches index ∙ none_covers batches index (ap (λ bs. times_covered (map range_of bs) index) reports_are ∙ past_none index past)) in
            subst (IsFirstResults (results_of future)) (all ∙ texts-all job) (first_results terms.filter (in_order batches) store)

  pub worked_out : IsWorkedOut job shares kind terms whole calls
  worked_out = record {
    lawful = lawful;
    opened = record {
      between = map (λ (logged : Logged (List ℕ)). logged.entry.call) b.opened.later;
      whole =
          ap (λ (j : Journal). map (λ (logged : Logged (List ℕ)). logged.entry.call) (j ++ finish ∷ [])) b.opened.is
          ∙ ap (λ list. Start ∷ list) (map-append (λ (logged : Logged (List ℕ)). logged.entry.call) b.opened.later (finish ∷ []) ∙ ap (λ call. map (λ (logged : Logged (List ℕ)). logged.entry.call) b.opened.later ++ call ∷ []) is_finish);
    };
    once = once;
    texts = subst (All (HasTexts job)) (sym reports_are) (All-weaker (IsGood job m shares tally.pieces) (HasTexts job) (λ batch is. is.texts) (reports_of journal) good);
    apart = λ index. subst (λ ranges. times_covered ranges index ≤ 1) (sym ranges_are) (apart index);
    within = λ index past. ap (λ ranges. times_covered ranges index) ranges_are ∙ within index (let is = b.indexes in omega arith);
    blocks = subst (λ n. All (IsBlock n shares) (reported_ranges future)) b.indexes
        (subst (All (IsBlock m shares)) (sym ranges_are)
        (All-map (IsBlock m shares) range_of (reports_of journal) (All-weaker (IsGood job m shares tally.pieces) (λ batch. IsBlock m shares (range_of batch)) (λ batch is. is.block) (reports_of journal) good)));
    covered = λ index. subst (λ ranges. times_covered ranges index ≤ times_called calls index) (sym ranges_are) (covered index);
    good = subst (All (λ range. first_bad job range ≡ None)) (sym ranges_are)
        (All-map (λ range. first_bad job range ≡ None) range_of (reports_of journal) (All-weaker (IsGood job m shares tally.pieces) (λ batch. first_bad job (range_of batch) ≡ None) (λ batch is. is.good) (reports_of journal) good));
    failing = λ failure e. (failed failure e).failing;
    failed_call = λ failure e. let some = (failed failure e).called in let most = once.once failure.index in omega (arith, some, most);
    own = own;
    canceled = subst (λ makers. All (IsOfOthers makers) whole) (sym makers_are) others;
    whole = is_whole;
  }
    where
      failure_before : (failure : Failure) → failure_in whole ≡ Some failure → failure_in journal ≡ Some failure
      failure_before failure e = sym (failure-push journal finish ∙ by (failure_in journal)) ∙ e
        where
          by : (o : Option Failure) → option_or o (failure_of_call finish.entry.call finish.item) ≡ o
          by (Some f) = refl
          by None = ap (λ call. failure_of_call call finish.item) is_finish

      failed : (failure : Failure) → failure_in whole ≡ Some failure → IsFailedCall job calls failure
      failed failure e = all_failing kind terms job m shares tally.pieces counter.workers calls journal failure ours (failure_before failure e)

      others : All (IsOfOthers (counter.workers + 1)) whole
      others =
          All-push (IsOfOthers (counter.workers + 1)) journal finish
          (All-weaker (IsOurs kind terms job m shares tally.pieces counter.workers calls) (IsOfOthers (counter.workers + 1)) (others_cancel kind terms job m shares tally.pieces counter.workers calls) journal ours)
          (record { others = λ is. absurd (not_cancel (sym is ∙ is_finish)) })

      own : All (IsOfEngine kind terms) whole
      own =
          All-push (IsOfEngine kind terms) journal finish
          (All-weaker (IsOurs kind terms job m shares tally.pieces counter.workers calls) (IsOfEngine kind terms)
          (λ logged ours. record { own = λ below. of_engine kind terms job m shares tally.pieces counter.workers calls b.plain logged ours (subst (λ makers. logged.entry.caller < makers) makers_are below) }) journal ours)
          (record { own = λ below. subst (λ call. IsTrue (engine_makes kind terms call)) (sym is_finish) (by_end (desk_makes kind terms Finish) (not (is_reduced kind) && board_makes terms Finish)) })
        where
          by_end : (a b : Bool) → (a || (b || true)) ≡ true
          by_end a b = grind arith

pub desks_are_worked_out : DesksAreWorkedOut
desks_are_worked_out work sizes kind terms journal counter tally calls finish b is_finish lawful = worked_out work sizes kind terms journal counter tally calls finish b is_finish lawful

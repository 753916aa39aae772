-- What stays true of the board of an inbox.
use Rattle.std.proofs.Common.{◌≡◌, ℕ, ◌+◌, ◌-◌, ◌<◌, ◌≤◌, Bool, true, false, ◌&&◌, List, [], ◌∷◌, ◌++◌, Result, Ok, Err, IfErr, IfOk, OnErr, Option, None, Some, MatchOption, IfSome, IsSome, slice_index_or, remove, All, length, refl, ap, sym, ◌∙◌, subst, arith, append-nil}
use Rattle.std.specs.Prelude.{Contains}
use Rattle.std.proofs.lemmas.List.Elements.{All-nil, All-push, All-weaker, Contains-append_left}
use Rattle.qtc_claim.specs.Claims.{Addition, MeetNowhere, clipped}
use Rattle.qtc_claim.specs.Counter.{CounterId, IsGathered, SeatState, TallyState}
use Rattle.qtc_store.specs.Stored.{batch_with}
use Rattle.qtc_store.specs.declared.batch.Batch.{Batch}
use Rattle.qtc_future.specs.Answering.{IsStep}
use Rattle.qtc_future.specs.Future.{Future}
use Rattle.qtc_future.specs.Steps.{Told, step}
use Rattle.qtc_future.specs.declared.requests.Request.TheVariants.{ReportBatch}
use Rattle.qtc_shared.specs.Journals.{BeginsWith, calls_by, flags_at}
use Rattle.qtc_shared.specs.Parts.{future_at}
use Rattle.qtc_shared.specs.Passes.{IsHold, Meets, PassState, Stays, is_accepted}
use Rattle.qtc_shared.proofs.Prefixes.{begins_same, saw_begins}
use Rattle.qtc_inbox.specs.declared.entry.Entry.{Entry}
use Rattle.qtc_inbox.specs.declared.rule.View.{View}
use Rattle.qtc_inbox.specs.Boards.{FitTogether, GoesFurther, HasTaken, InboxParts, IsBoard, IsReporting, IsSettled}
use Rattle.qtc_inbox.specs.Draining.{CallsBeside, DrainState, Drains, DrainsSome, ReportsOne, TakesOne}
use Rattle.qtc_inbox.specs.Inboxes.{InboxPassState, IsNewTally, IsOpen, place_in}
use Rattle.qtc_inbox.specs.Endings.{IsAt, workers_of}
use Rattle.qtc_inbox.specs.Line.{PlaceState}
use Rattle.qtc_inbox.specs.Parts.{Numbered}
use Rattle.qtc_inbox.specs.Reports.{AreReported, IsHandedIn, IsOwnCall, KnowsEnd, ranges_by, range_of, shows_end}
use Rattle.qtc_inbox.specs.Rule.{Fits, Takes, with_ticket}
use Rattle.qtc_inbox.proofs.Journals.{JournalOf, end_stays, handed_on}
use Rattle.qtc_inbox.proofs.Ranges.{bounds}
use Rattle.qtc_inbox.proofs.Reporting.{leaves, one_told, reporting_beside, stays_so, with_seats}
use Rattle.qtc_inbox.proofs.Tables.{values_few, values_whole}

pub ok_from : {X E : Type 0} (P : X → Type 0) (result : Result X E) (x : X) → result ≡ Ok x → IfOk result P → P x
ok_from P result x is ok = subst (λ r. IfOk r P) is ok

pub err_from : {X E : Type 0} (P : Type 0) (result : Result X E) (e : E) → result ≡ Err e → OnErr result P → P
err_from P result e is err = subst (λ r. OnErr r P) is err

pub some_from : {X : Type 0} (P : Type 0) (Q : X → Type 0) (option : Option X) (x : X) → option ≡ Some x → MatchOption option P Q → Q x
some_from P Q option x is told = subst (λ o. MatchOption o P Q) is told

-- where it is told of an end, it is told of the error
pub if_err : {X E : Type 0} (P Q : Type 0) (result : Result X E) → (P → Q) → IfErr result (λ _. P) → IfErr result (λ _. Q)
if_err P Q (Ok x) f told = tt
if_err P Q (Err e) f told = f told

pub if_ok : {X E : Type 0} (P Q : X → Type 0) (result : Result X E) → ((x : X) → P x → Q x) → IfOk result P → IfOk result Q
if_ok P Q (Ok x) f told = f x told
if_ok P Q (Err e) f told = tt

module _ {V : Type 0} (parts : InboxParts V) where
  -- ---- what was settled stays settled

  pub settled_further : (tally tally' : TallyState) (pass pass' : PassState V) (claim : Addition) → GoesFurther tally pass tally' pass' → IsSettled parts tally pass claim → IsSettled parts tally' pass' claim
  settled_further tally tally' pass pass' claim further is = record {
    gathered = subst (λ (pieces : List Addition). Contains pieces claim) (sym further.pieces) (Contains-append_left tally.pieces further.more claim is.gathered);
    handed = handed_on parts.key.counter.n parts.pass.number pass.known pass'.known claim further.known is.handed;
  }

  abbrev Settled : TallyState → PassState V → Numbered V → Type 0
  Settled tally pass one = IsSettled parts tally pass one.entry.piece.addition

  pub taken_further : (place : PlaceState V) (tally tally' : TallyState) (pass pass' : PassState V) → HasTaken parts place tally pass → GoesFurther tally pass tally' pass' → HasTaken parts place tally' pass'
  taken_further place tally tally' pass pass' is further = record {
    line = is.line;
    key = is.key;
    settled = All-weaker (Settled tally pass) (Settled tally' pass') (λ one. settled_further tally tally' pass pass' one.entry.piece.addition further) place.has.taken is.settled;
  }

  -- and one more that was taken and settled
  pub taken_more : (place place' : PlaceState V) (tally tally' : TallyState) (pass pass' : PassState V) (entry : Entry V) → HasTaken parts place tally pass → place'.line ≡ parts.line.table → Takes place.has entry place'.has → GoesFurther tally pass tally' pass'
      → IsSettled parts tally' pass' entry.piece.addition → HasTaken parts place' tally' pass'
  taken_more place place' tally tally' pass pass' entry is line takes further settled = let was = taken_further place tally tally' pass pass' is further in record {
    line = line;
    key = ap (λ (v : View V). v.key) takes.is ∙ was.key;
    settled = subst (All (Settled tally' pass')) (sym (ap (λ (v : View V). v.taken) takes.is)) (All-push (Settled tally' pass') place.has.taken (with_ticket takes.ticket entry) was.settled settled);
  }

  pub further_known : (tally : TallyState) (pass pass' : PassState V) → BeginsWith pass'.known pass.known → GoesFurther tally pass tally pass'
  further_known tally pass pass' begins = record { known = begins; more = []; pieces = sym (append-nil tally.pieces); workers = refl }

  -- the pass meets another, and nothing is done
  pub board_stays : (place : PlaceState V) (tally : TallyState) (pass pass' : PassState V) (on : Bool) → IsBoard parts place tally pass on → IsHold pass pass' Stays → IsBoard parts place tally pass' on
  board_stays place tally pass pass' on board hold = record {
    reporting = stays_so parts tally pass pass' on board.reporting hold;
    taken = taken_further place tally tally pass pass' board.taken
        (further_known tally pass pass' (subst (λ k. BeginsWith k pass.known) (sym (ap (λ (f : Future V). f.calls) hold.done)) (saw_begins pass.known hold.journal pass.seen hold.met.saw)));
  }

  -- a piece is gathered that isn't reported
  pub board_leaves : FitTogether parts.key parts.pass → (place : PlaceState V) (tally tally' : TallyState) (pass : PassState V) (on : Bool) → IsBoard parts place tally pass on → (piece : Addition) → piece.begin < parts.key.counter.n → 1 ≤ piece.size
      → tally' ≡ record tally { pieces = tally.pieces ++ piece ∷ [] } → IsGathered parts.key.counter tally' → IsBoard parts place tally' pass false
  board_leaves fits place tally tally' pass on board piece below some is gathered = record {
    reporting = leaves parts fits tally tally' pass on board.reporting piece below some is gathered;
    taken = taken_further place tally tally' pass pass board.taken (record { known = begins_same pass.known; more = piece ∷ []; pieces = ap (λ (t : TallyState). t.pieces) is; workers = ap (λ (t : TallyState). t.workers) is });
  }

  -- the front entry was taken and reported
  pub board_takes : (place place' : PlaceState V) (tally tally' : TallyState) (pass pass' : PassState V) (on on' : Bool) (entry : Entry V) → IsBoard parts place tally pass on → place'.line ≡ parts.line.table → Takes place.has entry place'.has
      → IsReporting parts tally' pass' on' → ReportsOne parts tally pass tally' pass' entry.piece.addition → IsBoard parts place' tally' pass' on'
  board_takes place place' tally tally' pass pass' on on' entry board line takes reporting one = record {
    reporting = reporting;
    taken = taken_more place place' tally tally' pass pass' entry board.taken line takes one.further one.settled;
  }

  -- or one that wasn't queued
  pub board_reports : (place : PlaceState V) (tally tally' : TallyState) (pass pass' : PassState V) (on on' : Bool) (piece : Addition) → IsBoard parts place tally pass on
      → IsReporting parts tally' pass' on' → ReportsOne parts tally pass tally' pass' piece → IsBoard parts place tally' pass' on'
  board_reports place tally tally' pass pass' on on' piece board reporting one = record {
    reporting = reporting;
    taken = taken_further place tally tally' pass pass' board.taken one.further;
  }

  -- ---- a new board

  none_meet : (m : ℕ) → MeetNowhere m []
  none_meet m = record { once = λ number. omega arith; once_below = λ number. omega arith }

  pub new_board : (place : PlaceState V) (tally : TallyState) → IsNewTally parts.key.counter tally → place.line ≡ parts.line.table → place.has.key ≡ parts.key → place.has.taken ≡ [] → IsBoard parts place tally parts.pass true
  new_board place tally new line key none =
      let pieces : tally.pieces ≡ [] = ap (λ (t : TallyState). t.pieces) new in
      let n = parts.key.counter.n in
      record {
        reporting = record {
          counter = ap (λ (t : TallyState). t.of) new;
          gathered = subst (IsGathered parts.key.counter) (sym new) (record {
            pieces = none_meet n;
            claims = none_meet n;
            numbers = λ number. omega arith;
            count = omega arith;
          });
          future = refl;
          number = refl;
          children = refl;
          opened = begins_same parts.pass.known;
          own = [];
          calls = sym (append-nil (calls_by parts.pass.number parts.pass.known));
          each = All-nil (IsOwnCall n parts.key.table tally.pieces);
          mark = (λ on. subst (λ (them : List Addition). AreReported n parts.pass.number them parts.pass.known) (sym pieces) (All-nil (λ (claim : Addition). Contains (ranges_by parts.pass.number parts.pass.known) (clipped n claim))), λ all. refl);
        };
        taken = record {
          line = line;
          key = key;
          settled = subst (All (Settled tally parts.pass)) (sym none) (All-nil (Settled tally parts.pass));
        };
      }

  -- ---- a report, as the code has it

  module _ (together : FitTogether parts.key parts.pass) (entry : Entry V) (fits : Fits parts.key entry) (begin end : ℕ) (code : (begin, end) ≡ clipped entry.piece.of.n entry.piece.addition) where
    abbrev range : ℕ × ℕ
    range = clipped parts.key.counter.n entry.piece.addition

    code_is : (begin, end) ≡ range
    code_is = code ∙ ap (λ (c : CounterId). clipped c.n entry.piece.addition) fits.of

    begin_is : begin ≡ range.0
    begin_is = ap (λ (r : ℕ × ℕ). r.0) code_is

    end_is : end ≡ range.1
    end_is = ap (λ (r : ℕ × ℕ). r.1) code_is

    pub code_few : length entry.values ≤ end - begin
    code_few =
        let few = values_few parts.key.table range in
        let long = ap length fits.values in
        omega (arith, few, long, begin_is, end_is)

    pub code_whole : parts.pass.of.terms.filter ≡ false → length entry.values ≡ end - begin
    code_whole plain =
        let b = bounds parts.key.counter.n entry.piece.addition fits.below fits.some in
        let whole = values_whole parts.key.counter.n parts.key.table range (together.plain plain) fits.good (let less = b.0 in omega (arith, less)) b.1 in
        let long = ap length fits.values in
        omega (arith, whole, long, begin_is, end_is)

    abbrev batch : Batch V
    batch = batch_with begin entry.values (end - begin)

    range_is : range_of batch ≡ range
    range_is =
        let b = bounds parts.key.counter.n entry.piece.addition fits.below fits.some in
        let less = b.0 in
        let last : begin + (end - begin) ≡ end = omega (arith, less, begin_is, end_is) in
        ap (λ e. (begin, e)) last ∙ code_is

    pub code_reports : (tally tally' : TallyState) (pass pass' : PassState V) (journal : JournalOf V) (on : Bool) → IsReporting parts tally pass on → tally' ≡ record tally { pieces = tally.pieces ++ entry.piece.addition ∷ [] } → IsGathered parts.key.counter tally'
        → Meets pass journal → pass' ≡ record pass { known = pass'.known; seen = [] } → (told : Told)
        → IsStep (step (future_at pass.of.terms journal) pass.number (ReportBatch begin entry.values (end - begin))) (future_at pass.of.terms pass'.known) told
        → IsReporting parts tally' pass' (on && is_accepted told) × ReportsOne parts tally pass tally' pass' entry.piece.addition
    code_reports tally tally' pass pass' journal on is tally_is gathered met same told done =
        one_told parts together tally tally' pass on is entry.piece.addition fits.below fits.some tally_is gathered pass' journal met same batch range_is (omega (arith, begin_is, end_is)) fits.good fits.values told done

-- ---- what another pass learns that meets the board's

module _ {V : Type 0} where
  pub stayed_begins : (pass pass' : PassState V) → IsHold pass pass' Stays → BeginsWith pass'.known pass.known
  stayed_begins pass pass' hold = subst (λ k. BeginsWith k pass.known) (sym (ap (λ (f : Future V). f.calls) hold.done)) (saw_begins pass.known hold.journal pass.seen hold.met.saw)

  pub met_end : (board board' own : PassState V) → IsHold board board' Stays → own.known ≡ board'.known → KnowsEnd board → KnowsEnd own
  met_end board board' own hold one ended = ap (λ k. shows_end (flags_at k)) one ∙ end_stays board.known board'.known (stayed_begins board board' hold) ended

  pub met_handed : (n number : ℕ) (board board' own : PassState V) (claim : Addition) → IsHold board board' Stays → own.known ≡ board'.known → IsHandedIn n number board.known claim → IsHandedIn n number own.known claim
  met_handed n number board board' own claim hold one handed =
      subst (λ k. IsHandedIn n number k claim) (sym one) (handed_on n number board.known board'.known claim (stayed_begins board board' hold) handed)

-- ---- a drain

module _ {V : Type 0} where
  -- one more was drained
  drains_more : (n : ℕ) (before between after : DrainState V) (entries : List (Entry V)) (entry : Entry V) → Drains n before entries between → TakesOne n between entry after → Drains n before (entries ++ entry ∷ []) after
  drains_more n before between after [] entry drains takes = (after, subst (λ state. TakesOne n state entry after) drains takes, refl)
  drains_more n before between after (first ∷ entries) entry drains takes = (drains.0, drains.1, drains_more n drains.0 between after entries entry drains.2 takes)

  pub some_more : (n : ℕ) (before between after : DrainState V) (count : ℕ) (entry : Entry V) → DrainsSome n before between count → TakesOne n between entry after → DrainsSome n before after (count + 1)
  some_more n before between after count entry some takes = record {
    entries = some.entries ++ entry ∷ [];
    count_is = length-push some.entries entry ∙ ap (λ k. k + 1) some.count_is;
    drains = drains_more n before between after some.entries entry some.drains takes;
  }
    where
      length-push : (xs : List (Entry V)) (x : Entry V) → length (xs ++ x ∷ []) ≡ length xs + 1
      length-push [] x = refl
      length-push (y ∷ xs) x = let rest = length-push xs x in omega (arith, rest)

-- ---- seats, and passes that are taken in

pub taken_first : {X : Type 0} (xs rest : List X) (x : X) → 0 < length xs → x ≡ slice_index_or xs 0 x → rest ≡ remove xs 0 → xs ≡ x ∷ rest
taken_first [] rest x some is left = absurd (omega arith)
taken_first (y ∷ ys) rest x some is left = λ i. sym is i ∷ sym left i

module _ {V : Type 0} (parts : InboxParts V) where
  pub open_at : (own : InboxPassState V) → IsOpen parts own → IsAt parts own
  open_at own its = record { future = its.future; place = by own.place its.is_in its.line its.none_taken }
    where
      by : (place : Option (PlaceState V)) → IsSome place → (place_in place).line ≡ parts.line.table → (place_in place).has.taken ≡ [] → IfSome place (λ it. (it.line ≡ parts.line.table) × (it.has.taken ≡ []))
      by None is line taken = tt
      by (Some place) is line taken = (line, taken)

  pub all_at : (passes : List (InboxPassState V)) → All (IsOpen parts) passes → All (IsAt parts) passes
  all_at passes all = All-weaker (IsOpen parts) (IsAt parts) open_at passes all

  -- a place that took others in, which had taken nothing
  pub taken_in : (place place' : PlaceState V) (tally tally' : TallyState) (pass pass' : PassState V) → HasTaken parts place tally pass → place'.line ≡ parts.line.table → place'.has.key ≡ place.has.key → place'.has.taken ≡ place.has.taken → GoesFurther tally pass tally' pass' → HasTaken parts place' tally' pass'
  taken_in place place' tally tally' pass pass' is line key taken further = let was = taken_further parts place tally tally' pass pass' is further in record {
    line = line;
    key = key ∙ was.key;
    settled = subst (All (λ (one : Numbered V). IsSettled parts tally' pass' one.entry.piece.addition)) (sym taken) was.settled;
  }

-- ---- the end

-- where as many are gathered last as there are, none was before
pub none_before : {X : Type 0} (before last : List X) (count : ℕ) → length (before ++ last) ≤ count → length last ≡ count → before ++ last ≡ last
none_before [] last count few all = refl
none_before (x ∷ before) last count few all = absurd (let long = longer before last in omega (arith, few, all, long))
  where
    longer : {X : Type 0} (xs ys : List X) → length ys ≤ length (xs ++ ys)
    longer [] ys = omega arith
    longer (x ∷ xs) ys = let rest = longer xs ys in omega (arith, rest)

pub long_workers : (seats : List SeatState) → length (workers_of seats) ≡ length seats
long_workers [] = refl
long_workers (seat ∷ seats) = let rest = long_workers seats in omega (arith, rest)

module _ {V : Type 0} (parts : InboxParts V) where
  -- the pass went on, and seats were gathered
  pub taken_seats : (place : PlaceState V) (tally tally' : TallyState) (pass pass' : PassState V) → HasTaken parts place tally pass → tally'.pieces ≡ tally.pieces → BeginsWith pass'.known pass.known → HasTaken parts place tally' pass'
  taken_seats place tally tally' pass pass' is pieces begins = record {
    line = is.line;
    key = is.key;
    settled = All-weaker (λ (one : Numbered V). IsSettled parts tally pass one.entry.piece.addition) (λ (one : Numbered V). IsSettled parts tally' pass' one.entry.piece.addition)
        (λ one it. record {
          gathered = subst (λ (them : List Addition). Contains them one.entry.piece.addition) (sym pieces) it.gathered;
          handed = handed_on parts.key.counter.n parts.pass.number pass.known pass'.known one.entry.piece.addition begins it.handed;
        })
        place.has.taken is.settled;
  }

  pub board_seats : (place : PlaceState V) (tally tally' : TallyState) (pass pass' : PassState V) (on : Bool) → IsBoard parts place tally pass on → CallsBeside parts.pass.number pass pass' → tally'.of ≡ tally.of → tally'.pieces ≡ tally.pieces → IsGathered parts.key.counter tally' → IsBoard parts place tally' pass' on
  board_seats place tally tally' pass pass' on board beside of pieces gathered = record {
    reporting = with_seats parts tally tally' pass' on (reporting_beside parts tally pass pass' on board.reporting beside) of pieces gathered;
    taken = taken_seats place tally tally' pass pass' board.taken pieces beside.begins;
  }

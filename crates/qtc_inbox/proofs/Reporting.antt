-- What stays true of the tally and of the pass that reports.
use Rattle.std.proofs.Common.{◌≡◌, ◌↔◌, ℕ, ◌-◌, ◌<◌, ◌≤◌, Bool, true, false, ◌&&◌, List, [], ◌∷◌, ◌++◌, Some, Result, Ok, Err, if◌then◌else◌, All, IsTrue, map, inl, inr, refl, ap, sym, ◌∙◌, subst, arith, append_assoc, append-nil}
use Rattle.std.specs.Prelude.{Contains}
use Rattle.std.specs.List.{list_any}
use native.Mathlib.Decide.{dec_lt}
use Rattle.std.proofs.lemmas.Bool.{false≢true}
use Rattle.std.proofs.lemmas.List.{map-append}
use Rattle.std.proofs.lemmas.List.Elements.{All-append, All-cons, All-contains, All-head, All-map, All-nil, All-push, All-tail, All-weaker, Contains-append_left, Contains-push}
use Rattle.qtc_base.specs.declared.memory.NoMemory.{NoMemory}
use Rattle.qtc_base.specs.Ranges.{times_covered}
use Rattle.qtc_claim.specs.Claims.{Addition, clipped}
use Rattle.qtc_claim.specs.Counter.{IsGathered, TallyState}
use Rattle.qtc_store.specs.Batches.{in_order, is_covered, least_covered}
use Rattle.qtc_store.specs.declared.batch.Batch.{Batch}
use Rattle.qtc_store.proofs.Offers.{is_covered-in_order}
use Rattle.qtc_events.specs.Calls.{has_effect}
use Rattle.qtc_events.specs.declared.calls.Call.{Call}
use Rattle.qtc_events.specs.declared.calls.Call.TheVariants.{Cancel}
use Rattle.qtc_future.proofs.Growing.{flags-push}
use Rattle.qtc_future.specs.Answering.{IsStep}
use Rattle.qtc_future.specs.Future.{Future, Logged, batches_in, flags_of, reports_of, results_of}
use Rattle.qtc_future.specs.Steps.{Effect, Stepped, Told, by_row, logged_by, offered, stays, step, with_call}
use Rattle.qtc_future.specs.declared.requests.Request.{Request}
use Rattle.qtc_shared.specs.Journals.{BeginsWith, calls_by, flags_at}
use Rattle.qtc_shared.specs.Parts.{future_at}
use Rattle.qtc_shared.specs.Passes.{IsHold, Meets, PassState, Stays, Tries, is_accepted}
use Rattle.qtc_shared.proofs.Prefixes.{begins_further, begins_same, saw_begins}
use Rattle.qtc_inbox.specs.Boards.{FitTogether, GoesFurther, InboxParts, IsReporting, IsSettled}
use Rattle.qtc_inbox.specs.Draining.{CallsBeside, IsBeside, ReportsOne}
use Rattle.qtc_inbox.specs.Entries.{IsGood, cells_of, values_in}
use Rattle.qtc_inbox.specs.Reports.{AreReported, IsHandedIn, IsOfPiece, IsOwnCall, KnowsEnd, is_own, is_report, is_strange, range_of, ranges_by, shows_end}
use Rattle.qtc_inbox.proofs.Journals.{is_over, is_taken, is_logged, JournalOf, begins_more, calls_by-append, comes, canceled_ends, canceled_stood, found_within, handed_on, no_batch, none_covers, none_strange, own_call, reported, reports-append}
use Rattle.qtc_inbox.proofs.Ranges.{among_cover, bounds, covers_there, first_uncovered, not_both, reported_before, all_left}

module _ {V : Type 0} (parts : InboxParts V) where
  abbrev n : ℕ
  n = parts.key.counter.n

  abbrev number : ℕ
  number = parts.pass.number

  abbrev Own : List Addition → Logged V → Type 0
  Own pieces = IsOwnCall n parts.key.table pieces

  -- ---- more pieces are gathered

  of_more : (pieces more : List Addition) (batch : Batch V) → IsOfPiece n parts.key.table pieces batch → IsOfPiece n parts.key.table (pieces ++ more) batch
  of_more pieces more batch is = record {
    good = is.good;
    values = is.values;
    gathered = subst (λ ranges. Contains ranges (range_of batch)) (sym (map-append (clipped n) pieces more)) (Contains-append_left (map (clipped n) pieces) (map (clipped n) more) (range_of batch) is.gathered);
  }

  own_more : (pieces more : List Addition) (logged : Logged V) → Own pieces logged → Own (pieces ++ more) logged
  own_more pieces more logged is = record {
    own = is.own;
    reports = All-weaker (IsOfPiece n parts.key.table pieces) (IsOfPiece n parts.key.table (pieces ++ more)) (of_more pieces more) (batches_in logged) is.reports;
  }

  each_more : (pieces pieces' more : List Addition) (own : JournalOf V) → pieces' ≡ pieces ++ more → All (Own pieces) own → All (Own pieces') own
  each_more pieces pieces' more own are all =
      subst (λ (them : List Addition). All (Own them) own) (sym are) (All-weaker (Own pieces) (Own (pieces ++ more)) (own_more pieces more) own all)

  -- ---- the ranges that were reported

  own_gathered : (pieces : List Addition) (own : JournalOf V) → All (Own pieces) own → All (Contains (map (clipped n) pieces)) (map range_of (reports_of own))
  own_gathered pieces [] all = All-nil (Contains (map (clipped n) pieces))
  own_gathered pieces (logged ∷ own) all =
      let Q = Contains (map (clipped n) pieces) in
      let first = All-head (Own pieces) logged own all in
      let rest = own_gathered pieces own (All-tail (Own pieces) logged own all) in
      subst (All Q) (sym (map-append range_of (batches_in logged) (reports_of own)))
      (All-append Q (map range_of (batches_in logged)) (map range_of (reports_of own))
      (All-map Q range_of (batches_in logged) (All-weaker (IsOfPiece n parts.key.table pieces) (λ batch. Q (range_of batch)) (λ batch is. is.gathered) (batches_in logged) first.reports))
      rest)

  module _ (fits : FitTogether parts.key parts.pass) where
    ranges_are : (tally : TallyState) (pass : PassState V) (on : Bool) (is : IsReporting parts tally pass on) → ranges_by number pass.known ≡ map range_of (reports_of is.own)
    ranges_are tally pass on is =
        ap (λ calls. map range_of (reports_of calls)) is.calls
        ∙ ap (map range_of) (reports-append (calls_by number parts.pass.known) is.own ∙ ap (λ batches. batches ++ reports_of is.own) fits.fresh)

    -- they are those of gathered pieces
    pub all_gathered : (tally : TallyState) (pass : PassState V) (on : Bool) → IsReporting parts tally pass on → All (Contains (map (clipped n) tally.pieces)) (ranges_by number pass.known)
    all_gathered tally pass on is = subst (All (Contains (map (clipped n) tally.pieces))) (sym (ranges_are tally pass on is)) (own_gathered tally.pieces is.own is.each)

  -- ---- the pass goes on

  -- the pass knows more, of which these are its own calls
  pub record Goes (pass pass' : PassState V) (calls : List (Logged V)) : Type 0 where
    pub of : pass'.of ≡ pass.of
    pub number_is : pass'.number ≡ pass.number
    pub children : pass'.children ≡ pass.children
    pub begins : BeginsWith pass'.known pass.known
    pub own : calls_by number pass'.known ≡ calls_by number pass.known ++ calls

  module _ (tally : TallyState) (pass pass' : PassState V) (on : Bool) (is : IsReporting parts tally pass on) (journal : JournalOf V) (met : Meets pass journal) (same : pass' ≡ record pass { known = pass'.known; seen = [] }) where
    journal_own : calls_by number journal ≡ calls_by number pass.known
    journal_own = ap (λ k. calls_by k journal) (sym is.number) ∙ met.own ∙ ap (λ k. calls_by k pass.known) is.number

    pub goes_still : pass'.known ≡ journal → Goes pass pass' []
    goes_still known = record {
      of = ap (λ (p : PassState V). p.of) same;
      number_is = ap (λ (p : PassState V). p.number) same;
      children = ap (λ (p : PassState V). p.children) same;
      begins = subst (λ k. BeginsWith k pass.known) (sym known) (saw_begins pass.known journal pass.seen met.saw);
      own = ap (calls_by number) known ∙ journal_own ∙ sym (append-nil (calls_by number pass.known));
    }

    pub goes_once : (logged : Logged V) → logged.entry.caller ≡ pass.number → pass'.known ≡ journal ++ logged ∷ [] → Goes pass pass' (logged ∷ [])
    goes_once logged caller known = record {
      of = ap (λ (p : PassState V). p.of) same;
      number_is = ap (λ (p : PassState V). p.number) same;
      children = ap (λ (p : PassState V). p.children) same;
      begins = begins_further pass.known journal pass'.known (saw_begins pass.known journal pass.seen met.saw) (subst (λ k. BeginsWith k journal) (sym known) (begins_more journal (logged ∷ [])));
      own = ap (calls_by number) known ∙ calls_by-append number journal (logged ∷ []) ∙ ap (λ calls. calls ++ calls_by number (logged ∷ [])) journal_own
          ∙ ap (λ calls. calls_by number pass.known ++ calls) (own_call number logged (caller ∙ is.number));
    }

  -- so it does with what it keeps
  pub grows : (tally tally' : TallyState) (pass pass' : PassState V) (on on' : Bool) (calls : List (Logged V)) (more : List Addition) → IsReporting parts tally pass on → Goes pass pass' calls → tally'.of ≡ tally.of → IsGathered parts.key.counter tally' → tally'.pieces ≡ tally.pieces ++ more → All (Own tally'.pieces) calls
      → (IsTrue on' ↔ AreReported n number tally'.pieces pass'.known) → IsReporting parts tally' pass' on'
  grows tally tally' pass pass' on on' calls more is goes of gathered pieces all mark = record {
    counter = of ∙ is.counter;
    gathered = gathered;
    future = goes.of ∙ is.future;
    number = goes.number_is ∙ is.number;
    children = goes.children ∙ is.children;
    opened = begins_further parts.pass.known pass.known pass'.known is.opened goes.begins;
    own = is.own ++ calls;
    calls = goes.own ∙ ap (λ them. them ++ calls) is.calls ∙ append_assoc (calls_by number parts.pass.known) is.own calls;
    each = All-append (Own tally'.pieces) is.own calls (each_more tally.pieces tally'.pieces more is.own pieces is.each) all;
    mark = mark;
  }

  -- calls without a batch report nothing
  ranges_goes : (pass pass' : PassState V) (calls : List (Logged V)) → Goes pass pass' calls → ranges_by number pass'.known ≡ ranges_by number pass.known ++ map range_of (reports_of calls)
  ranges_goes pass pass' calls goes =
      ap (λ them. map range_of (reports_of them)) goes.own ∙ ap (map range_of) (reports-append (calls_by number pass.known) calls) ∙ map-append range_of (reports_of (calls_by number pass.known)) (reports_of calls)

  pub ranges_same : (pass pass' : PassState V) (calls : List (Logged V)) → Goes pass pass' calls → reports_of calls ≡ [] → ranges_by number pass'.known ≡ ranges_by number pass.known
  ranges_same pass pass' calls goes none =
      ranges_goes pass pass' calls goes ∙ ap (λ batches. ranges_by number pass.known ++ map range_of batches) none ∙ append-nil (ranges_by number pass.known)

  pub grows_same : (tally : TallyState) (pass pass' : PassState V) (on : Bool) (calls : List (Logged V)) → IsReporting parts tally pass on → Goes pass pass' calls → reports_of calls ≡ [] → All (Own tally.pieces) calls → IsReporting parts tally pass' on
  grows_same tally pass pass' on calls is goes none all =
      grows tally tally pass pass' on on calls [] is goes refl is.gathered (sym (append-nil tally.pieces)) all
      (subst (λ (ranges : List (ℕ × ℕ)). IsTrue on ↔ All (λ claim. Contains ranges (clipped n claim)) tally.pieces) (sym (ranges_same pass pass' calls goes none)) is.mark)

  pub stays_so : (tally : TallyState) (pass pass' : PassState V) (on : Bool) → IsReporting parts tally pass on → IsHold pass pass' Stays → IsReporting parts tally pass' on
  stays_so tally pass pass' on is hold =
      grows_same tally pass pass' on [] is (goes_still tally pass pass' on is hold.journal hold.met hold.pass (ap (λ (f : Future V). f.calls) hold.done)) refl (All-nil (Own tally.pieces))

  -- ---- calls beside the reports

  goes_beside : (pass pass' : PassState V) (it : CallsBeside number pass pass') → Goes pass pass' it.calls
  goes_beside pass pass' it = record { of = it.of; number_is = it.number_is; children = it.children; begins = it.begins; own = it.own }

  none_beside : (calls : JournalOf V) → All IsBeside calls → reports_of calls ≡ []
  none_beside [] all = refl
  none_beside (logged ∷ calls) all =
      let first = All-head IsBeside logged calls all in
      ap (λ batches. batches ++ reports_of calls) (no_batch logged.entry.call logged.values first.other) ∙ none_beside calls (All-tail IsBeside logged calls all)

  own_beside : (pieces : List Addition) (logged : Logged V) → IsBeside logged → Own pieces logged
  own_beside pieces logged is = record {
    own = is.own;
    reports = subst (All (IsOfPiece n parts.key.table pieces)) (sym (no_batch logged.entry.call logged.values is.other)) (All-nil (IsOfPiece n parts.key.table pieces));
  }

  pub beside_same : (pass pass' : PassState V) → CallsBeside number pass pass' → ranges_by number pass'.known ≡ ranges_by number pass.known
  beside_same pass pass' it = ranges_same pass pass' it.calls (goes_beside pass pass' it) (none_beside it.calls it.beside)

  pub reporting_beside : (tally : TallyState) (pass pass' : PassState V) (on : Bool) → IsReporting parts tally pass on → CallsBeside number pass pass' → IsReporting parts tally pass' on
  reporting_beside tally pass pass' on is it =
      grows_same tally pass pass' on it.calls is (goes_beside pass pass' it) (none_beside it.calls it.beside) (All-weaker IsBeside (Own tally.pieces) (own_beside tally.pieces) it.calls it.beside)

  settled_on : (tally : TallyState) (pass pass' : PassState V) (piece : Addition) → BeginsWith pass'.known pass.known → IsSettled parts tally pass piece → IsSettled parts tally pass' piece
  settled_on tally pass pass' piece begins it = record { gathered = it.gathered; handed = handed_on n number pass.known pass'.known piece begins it.handed }

  pub one_beside : (tally tally' : TallyState) (pass between pass' : PassState V) (piece : Addition) → ReportsOne parts tally pass tally' between piece → CallsBeside number between pass' → ReportsOne parts tally pass tally' pass' piece
  one_beside tally tally' pass between pass' piece one it = let further = one.further in record {
    further = record { known = begins_further pass.known between.known pass'.known further.known it.begins; more = further.more; pieces = further.pieces; workers = further.workers };
    settled = settled_on tally' between pass' piece it.begins one.settled;
    accepted = one.accepted;
    ranges = beside_same between pass' it ∙ one.ranges;
  }

  pub beside_none : (pass : PassState V) → CallsBeside number pass pass
  beside_none pass = record {
    of = refl;
    number_is = refl;
    children = refl;
    begins = begins_same pass.known;
    calls = [];
    own = sym (append-nil (calls_by number pass.known));
    beside = All-nil IsBeside;
  }

  pub beside_further : (a b c : PassState V) → CallsBeside number a b → CallsBeside number b c → CallsBeside number a c
  beside_further a b c first second = record {
    of = second.of ∙ first.of;
    number_is = second.number_is ∙ first.number_is;
    children = second.children ∙ first.children;
    begins = begins_further a.known b.known c.known first.begins second.begins;
    calls = first.calls ++ second.calls;
    own = second.own ∙ ap (λ calls. calls ++ second.calls) first.own ∙ append_assoc (calls_by number a.known) first.calls second.calls;
    beside = All-append IsBeside first.calls second.calls first.beside second.beside;
  }

  -- a hold in which no call came to it, or one of these
  module _ (pass pass' : PassState V) (is_number : pass.number ≡ number) (journal : JournalOf V) (met : Meets pass journal) (same : pass' ≡ record pass { known = pass'.known; seen = [] }) where
    hold_own : calls_by number journal ≡ calls_by number pass.known
    hold_own = ap (λ k. calls_by k journal) (sym is_number) ∙ met.own ∙ ap (λ k. calls_by k pass.known) is_number

    hold_begins : BeginsWith journal pass.known
    hold_begins = saw_begins pass.known journal pass.seen met.saw

    pub beside_stayed : pass'.known ≡ journal → CallsBeside number pass pass'
    beside_stayed known = record {
      of = ap (λ (p : PassState V). p.of) same;
      number_is = ap (λ (p : PassState V). p.number) same;
      children = ap (λ (p : PassState V). p.children) same;
      begins = subst (λ k. BeginsWith k pass.known) (sym known) hold_begins;
      calls = [];
      own = ap (calls_by number) known ∙ hold_own ∙ sym (append-nil (calls_by number pass.known));
      beside = All-nil IsBeside;
    }

    beside_called : (logged : Logged V) → logged.entry.caller ≡ pass.number → IsBeside logged → pass'.known ≡ journal ++ logged ∷ [] → CallsBeside number pass pass'
    beside_called logged caller beside known = record {
      of = ap (λ (p : PassState V). p.of) same;
      number_is = ap (λ (p : PassState V). p.number) same;
      children = ap (λ (p : PassState V). p.children) same;
      begins = begins_further pass.known journal pass'.known hold_begins (subst (λ k. BeginsWith k journal) (sym known) (begins_more journal (logged ∷ [])));
      calls = logged ∷ [];
      own = ap (calls_by number) known ∙ calls_by-append number journal (logged ∷ []) ∙ ap (λ calls. calls ++ calls_by number (logged ∷ [])) hold_own
          ∙ ap (λ calls. calls_by number pass.known ++ calls) (own_call number logged (caller ∙ is_number));
      beside = All-cons IsBeside logged [] beside (All-nil IsBeside);
    }

    pub beside_row : (call : Call) → is_own call ≡ true → is_report call ≡ false → future_at pass.of.terms pass'.known ≡ (by_row (future_at pass.of.terms journal) pass.number call []).future → CallsBeside number pass pass'
    beside_row call own other is = by (has_effect (flags_of (future_at pass.of.terms journal)) call) is
      where
        future : Future V
        future = future_at pass.of.terms journal

        by : (b : Bool) → future_at pass.of.terms pass'.known ≡ (if b then record { future = with_call future (logged_by future pass.number call [] []); told = Effect b } else stays future (Effect b)).future → CallsBeside number pass pass'
        by true e = beside_called (logged_by future pass.number call [] []) refl (record { own = own; other = other }) (ap (λ (f : Future V). f.calls) e)
        by false e = beside_stayed (ap (λ (f : Future V). f.calls) e)

    -- after a cancel an end stands
    pub canceled_known : future_at pass.of.terms pass'.known ≡ (by_row (future_at pass.of.terms journal) pass.number Cancel []).future → KnowsEnd pass'
    canceled_known is = by (has_effect (flags_of (future_at pass.of.terms journal)) Cancel) refl is
      where
        future : Future V
        future = future_at pass.of.terms journal

        by : (b : Bool) → has_effect (flags_of future) Cancel ≡ b → future_at pass.of.terms pass'.known ≡ (if b then record { future = with_call future (logged_by future pass.number Cancel [] []); told = Effect b } else stays future (Effect b)).future → KnowsEnd pass'
        by true h e = ap (λ (f : Future V). shows_end (flags_of f)) e ∙ ap shows_end (flags-push future (logged_by future pass.number Cancel [] [])) ∙ canceled_ends (flags_of future) (logged_by future pass.number Cancel [] []).entry.reached
        by false h e = ap (λ (f : Future V). shows_end (flags_of f)) e ∙ canceled_stood (flags_of future) h

  -- the same of a call that may want memory
  pub beside_tried : (pass pass' : PassState V) → pass.number ≡ number → (asked : Request V) (call : Call) (result : Result Bool NoMemory) → is_own call ≡ true → is_report call ≡ false
      → ((future : Future V) (caller : ℕ) → step future caller asked ≡ by_row future caller call []) → IsHold pass pass' (Tries pass asked Effect result) → CallsBeside number pass pass'
  beside_tried pass pass' is_number asked call (Ok effect) own other same hold =
      beside_row pass pass' is_number hold.journal hold.met hold.pass call own other (hold.done.ok.future ∙ ap (λ (it : Stepped V). it.future) (same (future_at pass.of.terms hold.journal) pass.number))
  beside_tried pass pass' is_number asked call (Err e) own other same hold =
      beside_stayed pass pass' is_number hold.journal hold.met hold.pass (ap (λ (f : Future V). f.calls) hold.done.err)

  -- ---- a piece is gathered that isn't reported

  module _ (fits : FitTogether parts.key parts.pass) (tally tally' : TallyState) (pass : PassState V) (on : Bool) (is : IsReporting parts tally pass on) (piece : Addition) (below : piece.begin < n) (some : 1 ≤ piece.size)
      (tally_is : tally' ≡ record tally { pieces = tally.pieces ++ piece ∷ [] }) (gathered : IsGathered parts.key.counter tally') where
    pieces_are : tally'.pieces ≡ tally.pieces ++ piece ∷ []
    pieces_are = ap (λ (t : TallyState). t.pieces) tally_is

    pub leaves : IsReporting parts tally' pass false
    leaves = record {
      counter = ap (λ (t : TallyState). t.of) tally_is ∙ is.counter;
      gathered = gathered;
      future = is.future;
      number = is.number;
      children = is.children;
      opened = is.opened;
      own = is.own;
      calls = is.calls;
      each = each_more tally.pieces tally'.pieces (piece ∷ []) is.own pieces_are is.each;
      mark = (λ e. absurd (false≢true e), λ all. absurd (missing all));
    }
      where
        missing : AreReported n number tally'.pieces pass.known → ⊥
        missing all =
            let P : Addition → Type 0 = λ it. Contains (ranges_by number pass.known) (clipped n it) in
            let range = clipped n piece in
            let long = (bounds n piece below some).0 in
            let there : P piece = All-contains P (tally.pieces ++ piece ∷ []) piece (subst (All P) pieces_are all) (Contains-push tally.pieces piece) in
            let counted : 1 ≤ times_covered (ranges_by number pass.known) range.0 = covers_there n range long (ranges_by number pass.known) there in
            let covered = among_cover range.0 (ranges_by number pass.known) (map (clipped n) tally.pieces) (all_gathered fits tally pass on is) counted in
            let none = first_uncovered parts.key.counter tally.pieces tally' piece pieces_are gathered range refl long in
            omega (arith, covered, none)

    -- ---- or that is reported in the same hold

    abbrev range : ℕ × ℕ
    range = clipped n piece

    module _ (pass' : PassState V) (journal : JournalOf V) (met : Meets pass journal) (same : pass' ≡ record pass { known = pass'.known; seen = [] }) (batch : Batch V) (range_is : range_of batch ≡ range) (long : batch.total ≡ range.1 - range.0)
        (good : IsGood parts.key.table range) (values : batch.values ≡ values_in (cells_of parts.key.table range)) where
      abbrev future : Future V
      future = future_at pass.of.terms journal

      abbrev logged : Logged V
      logged = reported future pass.number batch

      own_is : Own tally'.pieces logged
      own_is = record {
        own = refl;
        reports = All-cons (IsOfPiece n parts.key.table tally'.pieces) batch [] (record {
          good = subst (IsGood parts.key.table) (sym range_is) good;
          values = values ∙ ap (λ r. values_in (cells_of parts.key.table r)) (sym range_is);
          gathered = subst (λ (them : List Addition). Contains (map (clipped n) them) (range_of batch)) (sym pieces_are)
              (subst (λ ranges. Contains ranges (range_of batch)) (sym (map-append (clipped n) tally.pieces (piece ∷ [])))
              (subst (λ r. Contains (map (clipped n) tally.pieces ++ range ∷ []) r) (sym range_is) (Contains-push (map (clipped n) tally.pieces) range)));
        }) (All-nil (IsOfPiece n parts.key.table tally'.pieces));
      }

      -- a piece that is reported as it is gathered leaves the mark
      marks_more : (old : List (ℕ × ℕ)) → (IsTrue on ↔ All (λ it. Contains old (clipped n it)) tally.pieces) → IsTrue on ↔ All (λ it. Contains (old ++ range ∷ []) (clipped n it)) (tally.pieces ++ piece ∷ [])
      marks_more old mark = (
        λ e. All-push More tally.pieces piece
            (All-weaker (λ it. Contains old (clipped n it)) More (λ it there. Contains-append_left old (range ∷ []) (clipped n it) there) tally.pieces (mark.0 e))
            (Contains-push old range),
        λ all. mark.1 (reported_before n range (bounds n piece below some).0 old tally.pieces (first_uncovered parts.key.counter tally.pieces tally' piece pieces_are gathered range refl (bounds n piece below some).0) (all_left More tally.pieces (piece ∷ []) all)),
      )
        where
          More : Addition → Type 0
          More it = Contains (old ++ range ∷ []) (clipped n it)

      ranges_logged : (goes : Goes pass pass' (logged ∷ [])) → ranges_by number pass'.known ≡ ranges_by number pass.known ++ range ∷ []
      ranges_logged goes = ranges_goes pass pass' (logged ∷ []) goes ∙ ap (λ r. ranges_by number pass.known ++ r ∷ []) range_is

      settled_in : IsHandedIn n number pass'.known piece → IsSettled parts tally' pass' piece
      settled_in handed = record { gathered = subst (λ (them : List Addition). Contains them piece) (sym pieces_are) (Contains-push tally.pieces piece); handed = handed }

      further : BeginsWith pass'.known pass.known → GoesFurther tally pass tally' pass'
      further begins = record { known = begins; more = piece ∷ []; pieces = pieces_are; workers = ap (λ (t : TallyState). t.workers) tally_is }

      pub one_logged : pass'.known ≡ journal ++ logged ∷ [] → IsReporting parts tally' pass' on × ReportsOne parts tally pass tally' pass' piece
      one_logged known =
          let goes = goes_once tally pass pass' on is journal met same logged refl known in
          let ranges = ranges_logged goes in (
            grows tally tally' pass pass' on on (logged ∷ []) (piece ∷ []) is goes (ap (λ (t : TallyState). t.of) tally_is) gathered pieces_are (All-cons (Own tally'.pieces) logged [] own_is (All-nil (Own tally'.pieces)))
                (subst (λ them. IsTrue on ↔ All (λ claim. Contains them (clipped n claim)) tally'.pieces) (sym ranges)
                (subst (λ (them : List Addition). IsTrue on ↔ All (λ claim. Contains (ranges_by number pass.known ++ range ∷ []) (clipped n claim)) them) (sym pieces_are) (marks_more (ranges_by number pass.known) is.mark))),
            record {
              further = further goes.begins;
              settled = settled_in (inl (subst (λ them. Contains them range) (sym ranges) (Contains-push (ranges_by number pass.known) range)));
              accepted = true;
              ranges = ranges;
            },
          )

      leaves_on : pass'.known ≡ journal → IsReporting parts tally' pass' false
      leaves_on known =
          let goes = goes_still tally pass pass' on is journal met same known in
          grows_same tally' pass pass' false [] leaves goes refl (All-nil (Own tally'.pieces))

      -- where it was not logged
      pub one_left : pass'.known ≡ journal → IsHandedIn n number pass'.known piece → IsReporting parts tally' pass' false × ReportsOne parts tally pass tally' pass' piece
      one_left known handed =
          let goes = goes_still tally pass pass' on is journal met same known in (
            leaves_on known,
            record { further = further goes.begins; settled = settled_in handed; accepted = false; ranges = ranges_same pass pass' [] goes refl },
          )

      -- an index of the piece can't be covered by a report of a gathered piece
      covered_strange : (index : ℕ) → least_covered (results_of future).batches batch.begin batch.total ≡ Some index → list_any (is_strange pass.number) journal ≡ true
      covered_strange index e =
          elim (list_any (is_strange pass.number) journal) as (λ b. list_any (is_strange pass.number) journal ≡ b → b ≡ true) [
            | true ↦ λ it. refl
            | false ↦ λ it. absurd (contradiction it)
          ] refl
        where
          contradiction : list_any (is_strange pass.number) journal ≡ false → ⊥
          contradiction none =
              let found = found_within (is_covered (in_order (reports_of journal))) batch.begin batch.total index e in
              let first : batch.begin ≡ range.0 = ap (λ (r : ℕ × ℕ). r.0) range_is in
              let less = (bounds n piece below some).0 in
              let calls : calls_by pass.number pass.known ≡ calls_by number pass.known = ap (λ k. calls_by k pass.known) is.number in
              let reports : reports_of journal ≡ reports_of (calls_by number pass.known) = none_strange pass.number journal none ∙ ap reports_of (met.own ∙ calls) in
              let covered : is_covered (reports_of (calls_by number pass.known)) index ≡ true = ap (λ batches. is_covered batches index) (sym reports) ∙ sym (is_covered-in_order (reports_of journal) index) ∙ found.2 in
              let some_range : 1 ≤ times_covered (ranges_by number pass.known) index = by (dec_lt 0 (times_covered (ranges_by number pass.known) index)) covered in
              not_both parts.key.counter tally.pieces tally' piece pieces_are gathered index (let low = found.0 in omega (arith, low, first)) (let high = found.1 in omega (arith, high, first, less, long))
              (among_cover index (ranges_by number pass.known) (map (clipped n) tally.pieces) (all_gathered fits tally pass on is) some_range)
            where
              by : Dec (0 < times_covered (ranges_by number pass.known) index) → is_covered (reports_of (calls_by number pass.known)) index ≡ true → 1 ≤ times_covered (ranges_by number pass.known) index
              by (yes more) covered = more
              by (no none) covered = absurd (false≢true (sym (none_covers (reports_of (calls_by number pass.known)) index (omega (arith, none))) ∙ covered))

      and_false : (b : Bool) → (b && false) ≡ false
      and_false b = grind arith

      and_true : (b : Bool) → (b && true) ≡ b
      and_true b = grind arith

      -- so a report comes to this
      pub one_told : (told : Told) → IsStep (offered future pass.number batch) (future_at pass.of.terms pass'.known) told → IsReporting parts tally' pass' (on && is_accepted told) × ReportsOne parts tally pass tally' pass' piece
      one_told told done =
          let b = bounds n piece below some in
          let limit = fits.limits.indexes in
          let first : batch.begin ≡ range.0 = ap (λ (r : ℕ × ℕ). r.0) range_is in
          let less = b.0 in
          let within = b.1 in
          elim (comes future pass.number batch (omega (arith, less, long)) (omega (arith, less, within, long, first, limit))) [
            | is_over ended kept taken ↦
                let known : pass'.known ≡ journal = ap (λ (f : Future V). f.calls) (done.future ∙ kept) in
                marked_none (ap is_accepted done.answer ∙ taken) (one_left known (inr (inl (ap (λ k. shows_end (flags_at k)) known ∙ ended))))
            | is_taken index e kept taken ↦
                let known : pass'.known ≡ journal = ap (λ (f : Future V). f.calls) (done.future ∙ kept) in
                marked_none (ap is_accepted done.answer ∙ taken)
                (one_left known (inr (inr (subst (λ k. list_any (is_strange k) pass'.known ≡ true) is.number (ap (list_any (is_strange pass.number)) known ∙ covered_strange index e)))))
            | is_logged new taken ↦
                let known : pass'.known ≡ journal ++ logged ∷ [] = ap (λ (f : Future V). f.calls) (done.future ∙ new) in
                marked_on (ap is_accepted done.answer ∙ taken) (one_logged known)
          ]
        where
          marked_none : is_accepted told ≡ false → IsReporting parts tally' pass' false × ReportsOne parts tally pass tally' pass' piece → IsReporting parts tally' pass' (on && is_accepted told) × ReportsOne parts tally pass tally' pass' piece
          marked_none e it = (subst (IsReporting parts tally' pass') (sym (ap (λ b. on && b) e ∙ and_false on)) it.0, it.1)

          marked_on : is_accepted told ≡ true → IsReporting parts tally' pass' on × ReportsOne parts tally pass tally' pass' piece → IsReporting parts tally' pass' (on && is_accepted told) × ReportsOne parts tally pass tally' pass' piece
          marked_on e it = (subst (IsReporting parts tally' pass') (sym (ap (λ b. on && b) e ∙ and_true on)) it.0, it.1)

  -- a report that wanted memory, and then the cancel; and the piece is gathered
  module _ (fits : FitTogether parts.key parts.pass) (tally tally' : TallyState) (pass between pass' : PassState V) (on : Bool) (is : IsReporting parts tally pass on) (piece : Addition) (below : piece.begin < n) (some : 1 ≤ piece.size)
      (tally_is : tally' ≡ record tally { pieces = tally.pieces ++ piece ∷ [] }) (gathered : IsGathered parts.key.counter tally') (wanted : CallsBeside number pass between) (canceled : CallsBeside number between pass') (ended : KnowsEnd pass') where
    gave_up : CallsBeside number pass pass'
    gave_up = beside_further pass between pass' wanted canceled

    pub given_up : IsReporting parts tally' pass' false × ReportsOne parts tally pass tally' pass' piece
    given_up = (
      leaves fits tally tally' pass' on (reporting_beside tally pass pass' on is gave_up) piece below some tally_is gathered,
      record {
        further = record { known = gave_up.begins; more = piece ∷ []; pieces = ap (λ (t : TallyState). t.pieces) tally_is; workers = ap (λ (t : TallyState). t.workers) tally_is };
        settled = record {
          gathered = subst (λ (them : List Addition). Contains them piece) (sym (ap (λ (t : TallyState). t.pieces) tally_is)) (Contains-push tally.pieces piece);
          handed = inr (inl ended);
        };
        accepted = false;
        ranges = beside_same pass pass' gave_up;
      },
    )

  -- seats are gathered
  pub with_seats : (tally tally' : TallyState) (pass : PassState V) (on : Bool) → IsReporting parts tally pass on → tally'.of ≡ tally.of → tally'.pieces ≡ tally.pieces → IsGathered parts.key.counter tally' → IsReporting parts tally' pass on
  with_seats tally tally' pass on is of pieces gathered = record {
    counter = of ∙ is.counter;
    gathered = gathered;
    future = is.future;
    number = is.number;
    children = is.children;
    opened = is.opened;
    own = is.own;
    calls = is.calls;
    each = subst (λ (them : List Addition). All (Own them) is.own) (sym pieces) is.each;
    mark = subst (λ (them : List Addition). IsTrue on ↔ AreReported n number them pass.known) (sym pieces) is.mark;
  }

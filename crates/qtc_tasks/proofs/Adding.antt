-- What the values that a job adds come to.
use Rattle.std.proofs.Common.{◌≡◌, ◌⊎◌, inl, inr, ℕ, ◌+◌, ◌<◌, ◌≤◌, Bool, true, false, ◌||◌, max, List, [], ◌∷◌, ◌++◌, Option, None, Some, Ok, All, IsTrue, length, refl, ap, sym, ◌∙◌, subst, append-nil, append_assoc, arith}
use Rattle.std.specs.List.{flat_map, list_any}
use Rattle.std.proofs.lemmas.Grind.{flat_map-append}
use Rattle.std.proofs.lemmas.List.{length-append}
use Rattle.std.proofs.lemmas.List.Elements.{All-append, All-cons, All-head, All-nil, All-tail}
use Rattle.std.proofs.lemmas.List.Folds.{list_any-append}
use Rattle.qtc_base.specs.Limits.{most_end}
use Rattle.qtc_events.specs.Flags.{Standing}
use Rattle.qtc_events.specs.declared.calls.Call.TheVariants.{Report, ReportSuspended}
use Rattle.qtc_future.specs.Future.{Future, Logged, batches_in, reports_of, results_of}
use Rattle.qtc_future.specs.Steps.{logged_by}
use Rattle.qtc_future.specs.declared.requests.Request.TheVariants.{AddResult}
use Rattle.qtc_shared.specs.Journals.{BeginsWith, calls_by}
use Rattle.qtc_shared.specs.Laws.{is_ended}
use Rattle.qtc_shared.specs.Parts.{future_at}
use Rattle.qtc_shared.specs.Passes.{FutureId, PassState, Adds, IsHold}
use Rattle.qtc_shared.proofs.Prefixes.{saw_begins}
use Rattle.qtc_store.specs.Batches.{end_of, greatest_end}
use Rattle.qtc_store.specs.Stored.{batch_with, goes_at}
use Rattle.qtc_store.specs.declared.batch.Batch.{Batch}
use Rattle.qtc_store.proofs.Offers.{greatest_end-in_order}
use Rattle.qtc_tasks.specs.Inside.{CanAdd, HasAdded, IsUnderWay, end_at}
use Rattle.qtc_tasks.specs.TaskJournals.{IsCall, IsReport, IsWorkCall}
use Rattle.qtc_tasks.specs.Tasks.{TaskState}
use Rattle.qtc_tasks.specs.Turns.{AreAdded, IsOffered}
use Rattle.qtc_tasks.proofs.Answered.{end_later, taken}
use Rattle.qtc_tasks.proofs.Passing.{Goes, goes_further, goes_same, hold_goes, own_call}
use Rattle.qtc_tasks.proofs.Stepping.{rested}

module _ {V : Type 0} where
  pub end_grows : (journal first : List (Logged V)) → BeginsWith journal first → end_at first ≤ end_at journal
  end_grows journal first begins =
      let both = end_later first begins.later in
      let same : end_at journal ≡ end_at (first ++ begins.later) = ap end_at begins.is in
      omega (arith, both, same)

  pub stills_work : (own : List (Logged V)) → All (IsCall ReportSuspended [] []) own → All IsWorkCall own
  stills_work [] all = All-nil IsWorkCall
  stills_work (logged ∷ own) all =
      All-cons IsWorkCall logged own (inr (All-head (IsCall ReportSuspended [] []) logged own all)) (stills_work own (All-tail (IsCall ReportSuspended [] []) logged own all))

  pub stills_carry : (own : List (Logged V)) → All (IsCall ReportSuspended [] []) own → flat_map (λ (l : Logged V). l.values) own ≡ []
  stills_carry [] all = refl
  stills_carry (logged ∷ own) all =
      ap (λ vs. vs ++ flat_map (λ (l : Logged V). l.values) own) (All-head (IsCall ReportSuspended [] []) logged own all).values_are
      ∙ stills_carry own (All-tail (IsCall ReportSuspended [] []) logged own all)

  -- values that were added: what the pass knows more, and that it read no end
  pub record Gained (old new : PassState V) (values : List V) : Type 0 where
    pub own : List (Logged V)
    pub read : List Standing
    pub goes : Goes old new own read
    pub works : All IsWorkCall own
    pub carries : flat_map (λ (l : Logged V). l.values) own ≡ values
    pub reads : list_any is_ended read ≡ false

  -- one value
  pub record GainedOne (old new : PassState V) (value : V) : Type 0 where
    pub gained : Gained old new (value ∷ [])
    pub room : end_at old.known + 1 ≤ end_at new.known
    pub few : end_at old.known + 1 ≤ most_end

  pub offered_one : (old new : PassState V) (value : V) → IsOffered old new value (Ok true) → GainedOne old new value
  offered_one old new value offer =
      let paused = offer.paused in
      let rest = rested old paused false offer.pause in
      let hold = offer.add in
      let terms = paused.of.terms in
      let f : Future V = future_at terms hold.journal in
      let begin = goes_at (results_of f) None in
      let batch : Batch V = batch_with begin (value ∷ []) 1 in
      let logged : Logged V = logged_by f paused.number (Report begin 1 1) (value ∷ []) [] in
      let took = taken f (future_at terms new.known) paused.number batch hold.done.ok.0 hold.done.ok.1 in
      let after : new.known ≡ hold.journal ++ logged ∷ [] = ap (λ f. f.calls) took.after_is in
      let report : IsReport logged = record { begin = begin; value = value; is = record { call_is = refl; values_are = refl; item_is = refl } } in
      let added = hold_goes paused new _ (logged ∷ []) hold after (own_call paused.number logged refl) in
      let at : begin ≡ end_at hold.journal = greatest_end-in_order (reports_of hold.journal) in
      let old_end : end_at old.known ≤ end_at hold.journal =
      let first = end_grows paused.known old.known rest.goes.knew in
      let second = end_grows hold.journal paused.known (saw_begins paused.known hold.journal paused.seen hold.met.saw) in
      omega (arith, first, second) in
      record {
        gained = record {
          own = rest.own ++ logged ∷ [];
          read = rest.read ++ [];
          goes = goes_further old paused new rest.own (logged ∷ []) rest.read [] rest.goes added;
          works = All-append IsWorkCall rest.own (logged ∷ []) (stills_work rest.own rest.stills) (All-cons IsWorkCall logged [] (inl report) (All-nil IsWorkCall));
          carries = flat_map-append (λ (l : Logged V). l.values) rest.own (logged ∷ []) ∙ ap (λ vs. vs ++ value ∷ []) (stills_carry rest.own rest.stills);
          reads = list_any-append is_ended rest.read [] ∙ or_none (list_any is_ended rest.read) ∙ rest.reads;
        };
        room =
            let both = end_later hold.journal (logged ∷ []) in
            let same : end_at new.known ≡ end_at (hold.journal ++ logged ∷ []) = ap end_at after in
            omega (arith, both, same, at, old_end);
        few = let fits = took.room in omega (arith, at, old_end, fits);
      }
    where
      or_none : (b : Bool) → (b || false) ≡ b
      or_none true = refl
      or_none false = refl

  pub all_gained : (old : PassState V) (values : List V) (new : PassState V) → AreAdded old values new → Gained old new values
  all_gained old [] new same = record {
    own = [];
    read = [];
    goes = subst (λ p. Goes old p [] []) (sym same) (goes_same old);
    works = All-nil IsWorkCall;
    carries = refl;
    reads = refl;
  }
  all_gained old (value ∷ values) new added =
      let first = (offered_one old added.0 value added.1).gained in
      let rest = all_gained added.0 values new added.2 in
      record {
        own = first.own ++ rest.own;
        read = first.read ++ rest.read;
        goes = goes_further old added.0 new first.own rest.own first.read rest.read first.goes rest.goes;
        works = All-append IsWorkCall first.own rest.own first.works rest.works;
        carries = flat_map-append (λ (l : Logged V). l.values) first.own rest.own ∙ ap (λ vs. vs ++ flat_map (λ (l : Logged V). l.values) rest.own) first.carries ∙ ap (λ vs. value ∷ vs) rest.carries;
        reads = list_any-append is_ended first.read rest.read ∙ ap (λ b. b || list_any is_ended rest.read) first.reads ∙ rest.reads;
      }

  pub added_more : (old : PassState V) (values : List V) (now new : PassState V) (value : V) → AreAdded old values now → IsOffered now new value (Ok true) → AreAdded old (values ++ value ∷ []) new
  added_more old [] now new value same offer = (new, subst (λ p. IsOffered p new value (Ok true)) same offer, refl)
  added_more old (first ∷ values) now new value added offer = (added.0, added.1, added_more added.0 values now new value added.2 offer)

  pub goes_can : (future : FutureId) (old new : PassState V) (own : List (Logged V)) (read : List Standing) → CanAdd future old → Goes old new own read → CanAdd future new
  goes_can future old new own read can goes = record {
    of = ap (λ p. p.of) goes.pass ∙ can.of;
    maker = subst (λ n. n < future.terms.makers) (sym (ap (λ p. p.number) goes.pass)) can.maker;
    plain = can.plain;
  }

  pub goes_on : (future : FutureId) (task before after : TaskState V) (old now new : PassState V) (came : ℕ) → IsUnderWay future task before old now came → HasAdded before after now new → IsUnderWay future task after old new (came + 1)
  goes_on future task before after old now new came way added =
      let one = offered_one now new added.value added.offer in
      record {
        can = goes_can future now new one.gained.own one.gained.read way.can one.gained.goes;
        values = way.values ++ added.value ∷ [];
        left_is = way.left_is ∙ ap (λ xs. way.values ++ xs) added.left ∙ sym (append_assoc way.values (added.value ∷ []) after.left);
        bad = added.bad ∙ way.bad;
        count = length-append way.values (added.value ∷ []) ∙ ap (λ n. n + 1) way.count;
        added = added_more old way.values now new added.value way.added added.offer;
        room = let more = one.room in let was = way.room in omega (arith, more, was);
        few = let most = one.few in let was = way.room in omega (arith, most, was);
      }

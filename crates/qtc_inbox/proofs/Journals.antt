-- What pieces were reported in a journal, as it grows.
use Rattle.std.proofs.Common.{◌≡◌, ℕ, ◌<◌, ◌≤◌, Bool, true, false, not, ◌||◌, ◌&&◌, ◌==◌, nat_lt, nat_le, ◌+◌, zero, suc, cond, List, [], ◌∷◌, ◌++◌, IsTrue, Option, None, Some, map, fold, if◌then◌else◌, inl, inr, refl, ap, sym, ◌∙◌, subst, arith}
use Rattle.std.specs.Prelude.{Contains}
use Rattle.std.specs.List.{find, list_any, range_with_len}
use Rattle.std.proofs.lemmas.Bool.Decides.{nat_tests}
use Rattle.std.proofs.lemmas.List.{map-append}
use Rattle.std.proofs.lemmas.List.Concat.{flat_map-append}
use Rattle.std.proofs.lemmas.List.Elements.{Contains-append_left, filter-append}
use Rattle.std.proofs.lemmas.List.Folds.{list_any-append}
use Rattle.std.proofs.lemmas.List.Sums.{fold-append}
use Rattle.qtc_base.specs.Limits.{most_end}
use Rattle.qtc_claim.specs.Claims.{Addition, clipped}
use Rattle.qtc_events.specs.Flags.{Standing, new_flags}
use Rattle.qtc_events.specs.Calls.{after, has_effect}
use Rattle.qtc_events.specs.Journal.{after_entry}
use Rattle.qtc_events.specs.declared.calls.Call.{Call}
use Rattle.qtc_events.specs.declared.calls.Call.TheVariants.{Start, Report, Account, Suspend, Resume, ReportSuspended, Cancel, Fail, Finish}
use Rattle.qtc_events.specs.declared.entries.Entry.{Entry}
use Rattle.qtc_events.specs.declared.entries.Reached.{Reached}
use Rattle.qtc_base.specs.Ranges.{times_covered}
use Rattle.qtc_store.specs.Batches.{covers as covers_index, end_of, is_covered, least_covered}
use Rattle.qtc_store.specs.declared.batch.Batch.{Batch}
use Rattle.qtc_future.specs.Future.{Future, Logged, batch_of, batches_in, entries_of, reports_of, results_of}
use Rattle.qtc_future.specs.Steps.{PastEnd, Stepped, accepted, dropped, has_ended, judged, logged_by, offered, report_of, stays, with_call, with_report}
use Rattle.qtc_shared.specs.Journals.{BeginsWith, calls_by, flags_at}
use Rattle.qtc_shared.specs.Passes.{is_accepted}
use Rattle.qtc_inbox.proofs.Ranges.{covers, times-cons}
use Rattle.qtc_inbox.specs.Reports.{IsHandedIn, is_report, is_strange, range_of, ranges_by, shows_end}

pub no_batch : {V : Type 0} (call : Call) (values : List V) → is_report call ≡ false → batch_of call values ≡ []
no_batch Start values h = refl
no_batch (Report begin kept total) values h = absurd (cc)
no_batch (Account total) values h = refl
no_batch Suspend values h = refl
no_batch Resume values h = refl
no_batch ReportSuspended values h = refl
no_batch Cancel values h = refl
no_batch (Fail index) values h = refl
no_batch Finish values h = refl

-- ---- an end stays

end_after : (s : Standing) (call : Call) (reached : Reached) → shows_end s ≡ true → shows_end (after s call reached) ≡ true
end_after s call reached h = grind arith

end_after_all : (s : Standing) (entries : List Entry) → shows_end s ≡ true → shows_end (fold after_entry s entries) ≡ true
end_after_all s [] h = h
end_after_all s (entry ∷ entries) h = end_after_all (after_entry s entry) entries (end_after s entry.call entry.reached h)

pub canceled_ends : (s : Standing) (reached : Reached) → shows_end (after s Cancel reached) ≡ true
canceled_ends s reached = grind arith

pub canceled_stood : (s : Standing) → has_effect s Cancel ≡ false → shows_end s ≡ true
canceled_stood s h = grind arith

left_true : (a b : Bool) → a ≡ true → (a || b) ≡ true
left_true a b h = grind arith

abbrev pub JournalOf : Type 0 → Type 0
JournalOf V = List (Logged V)

-- the first number of a range that passes a test lies in it
pub found_within : (p : ℕ → Bool) (begin n index : ℕ) → find p (range_with_len begin n) ≡ Some index → (begin ≤ index) × (index < begin + n) × (p index ≡ true)
found_within p begin zero index e = absurd (cc)
found_within p begin (suc n) index e =
    elim (p begin) as (λ b. p begin ≡ b → cond b (Some begin) (find p (range_with_len (begin + 1) n)) ≡ Some index → (begin ≤ index) × (index < begin + suc n) × (p index ≡ true)) [
      | true ↦ λ is f. let same : begin ≡ index = cc in (omega arith, omega arith, subst (λ k. p k ≡ true) same is)
      | false ↦ λ is f. let later = found_within p (begin + 1) n index f in (omega (arith, later.0), omega (arith, later.1), later.2)
    ] refl e

module _ {V : Type 0} where
  pub begins_more : (first more : JournalOf V) → BeginsWith (first ++ more) first
  begins_more first more = record { later = more; is = refl }

  pub calls_by-append : (number : ℕ) (first more : JournalOf V) → calls_by number (first ++ more) ≡ calls_by number first ++ calls_by number more
  calls_by-append number first more = filter-append (λ (logged : Logged V). logged.entry.caller == number) first more

  pub reports-append : (first more : JournalOf V) → reports_of (first ++ more) ≡ reports_of first ++ reports_of more
  reports-append first more = flat_map-append (λ (logged : Logged V). batches_in logged) first more

  pub ranges_by-append : (number : ℕ) (first more : JournalOf V) → ranges_by number (first ++ more) ≡ ranges_by number first ++ ranges_by number more
  ranges_by-append number first more =
      ap (λ calls. map range_of (reports_of calls)) (calls_by-append number first more)
      ∙ ap (map range_of) (reports-append (calls_by number first) (calls_by number more))
      ∙ map-append range_of (reports_of (calls_by number first)) (reports_of (calls_by number more))

  pub own_call : (number : ℕ) (logged : Logged V) → logged.entry.caller ≡ number → calls_by number (logged ∷ []) ≡ logged ∷ []
  own_call number logged is = let same : (logged.entry.caller == number) ≡ true = grind (arith, nat_tests) in rw same refl

  pub end_stays : (first later : JournalOf V) → BeginsWith later first → shows_end (flags_at first) ≡ true → shows_end (flags_at later) ≡ true
  end_stays first later begins h =
      let flags : flags_at later ≡ fold after_entry (flags_at first) (entries_of begins.later) =
      ap flags_at begins.is
      ∙ ap (fold after_entry new_flags) (map-append (λ (logged : Logged V). logged.entry) first begins.later)
      ∙ fold-append after_entry new_flags (entries_of first) (entries_of begins.later)
      in
      ap shows_end flags ∙ end_after_all (flags_at first) (entries_of begins.later) h

  pub contained_on : (number : ℕ) (first later : JournalOf V) (range : ℕ × ℕ) → BeginsWith later first → Contains (ranges_by number first) range → Contains (ranges_by number later) range
  contained_on number first later range begins there =
      subst (λ ranges. Contains ranges range) (sym (ap (ranges_by number) begins.is ∙ ranges_by-append number first begins.later))
      (Contains-append_left (ranges_by number first) (ranges_by number begins.later) range there)

  pub strange_on : (number : ℕ) (first later : JournalOf V) → BeginsWith later first → IsTrue (list_any (is_strange number) first) → IsTrue (list_any (is_strange number) later)
  strange_on number first later begins there =
      ap (list_any (is_strange number)) begins.is ∙ list_any-append (is_strange number) first begins.later
      ∙ left_true (list_any (is_strange number) first) (list_any (is_strange number) begins.later) there

  -- what was handed in stays handed in
  pub handed_on : (n number : ℕ) (first later : JournalOf V) (claim : Addition) → BeginsWith later first → IsHandedIn n number first claim → IsHandedIn n number later claim
  handed_on n number first later claim begins handed = elim handed [
    | inl there ↦ inl (contained_on number first later (clipped n claim) begins there)
    | inr (inl ended) ↦ inr (inl (end_stays first later begins ended))
    | inr (inr strange) ↦ inr (inr (strange_on number first later begins strange))
  ]

  -- where no report is of another number, the reports are those of this one
  pub none_strange : (number : ℕ) (journal : JournalOf V) → list_any (is_strange number) journal ≡ false → reports_of journal ≡ reports_of (calls_by number journal)
  none_strange number [] none = refl
  none_strange number (logged ∷ journal) none =
      let first : is_strange number logged ≡ false = left_false (is_strange number logged) (list_any (is_strange number) journal) none in
      let rest = none_strange number journal (right_false (is_strange number logged) (list_any (is_strange number) journal) none) in
      elim (logged.entry.caller == number) as (λ b. (logged.entry.caller == number) ≡ b → batches_in logged ++ reports_of journal ≡ reports_of (if b then logged ∷ calls_by number journal else calls_by number journal)) [
        | true ↦ λ e. ap (λ batches. batches_in logged ++ batches) rest
        | false ↦ λ e. ap (λ batches. batches ++ reports_of journal) (no_batch logged.entry.call logged.values (from_not (is_report logged.entry.call) (ap (λ b. is_report logged.entry.call && not b) (sym e) ∙ first))) ∙ rest
      ] refl
    where
      left_false : (a b : Bool) → (a || b) ≡ false → a ≡ false
      left_false a b h = grind arith

      right_false : (a b : Bool) → (a || b) ≡ false → b ≡ false
      right_false a b h = grind arith

      from_not : (a : Bool) → (a && not false) ≡ false → a ≡ false
      from_not a h = grind arith

  -- ---- covered or not

  pub none_covers : (batches : List (Batch V)) (index : ℕ) → times_covered (map range_of batches) index ≡ 0 → is_covered batches index ≡ false
  none_covers [] index none = refl
  none_covers (batch ∷ batches) index none =
      let parts = times-cons index (range_of batch) (map range_of batches) in
      let rest = none_covers batches index (omega (arith, parts, none)) in
      let out : covers_index index batch ≡ false = outside index batch.begin (end_of batch) (omega (arith, parts, none)) in
      rw (out, rest) refl
    where
      outside : (index begin end : ℕ) → covers index (begin, end) ≡ 0 → (nat_le begin index && nat_lt index end) ≡ false
      outside index begin end e = grind (arith, nat_tests)

  -- ---- what a report comes to

  -- a report that is logged
  abbrev pub reported : Future V → ℕ → Batch V → Logged V
  reported future caller batch = logged_by future caller (report_of batch) batch.values []

  -- an end stands; or an index of the batch is covered; or the batch is logged
  pub data Comes (future : Future V) (caller : ℕ) (batch : Batch V) (stepped : Stepped V) : Type 0 where
    is_over : has_ended future ≡ true → stepped.future ≡ future → is_accepted stepped.told ≡ false → Comes future caller batch stepped
    is_taken : (index : ℕ) → least_covered (results_of future).batches batch.begin batch.total ≡ Some index → stepped.future ≡ future → is_accepted stepped.told ≡ false → Comes future caller batch stepped
    is_logged : stepped.future ≡ with_call future (reported future caller batch) → is_accepted stepped.told ≡ true → Comes future caller batch stepped

  chosen : (future : Future V) (caller : ℕ) (batch : Batch V) (b : Bool) (x y : Stepped V) → (b ≡ true → Comes future caller batch x) → (b ≡ false → Comes future caller batch y) → Comes future caller batch (if b then x else y)
  chosen future caller batch true x y h k = h refl
  chosen future caller batch false x y h k = k refl

  some_logged : (future : Future V) (caller : ℕ) (batch : Batch V) → 0 < batch.total → with_report future caller batch ≡ with_call future (reported future caller batch)
  some_logged future caller batch some = let is : (batch.total == 0) ≡ false = grind (arith, nat_tests) in rw is refl

  judged_comes : (future : Future V) (caller : ℕ) (batch : Batch V) → 0 < batch.total → end_of batch ≤ most_end → (least : Option ℕ) → least_covered (results_of future).batches batch.begin batch.total ≡ least → Comes future caller batch (judged future caller batch least)
  judged_comes future caller batch some within (Some index) e = is_taken index e refl refl
  judged_comes future caller batch some within None e =
      chosen future caller batch (nat_lt most_end (end_of batch)) (stays future PastEnd) (accepted future caller batch)
      (λ h. absurd (past most_end (end_of batch) within h))
      (λ h. is_logged (some_logged future caller batch some) refl)
    where
      past : (most end : ℕ) → end ≤ most → nat_lt most end ≡ true → ⊥
      past most end within h = grind (arith, nat_tests)

  pub comes : (future : Future V) (caller : ℕ) (batch : Batch V) → 0 < batch.total → end_of batch ≤ most_end → Comes future caller batch (offered future caller batch)
  comes future caller batch some within =
      chosen future caller batch (has_ended future) (dropped future) (judged future caller batch (least_covered (results_of future).batches batch.begin batch.total))
      (λ h. is_over h refl refl)
      (λ h. judged_comes future caller batch some within (least_covered (results_of future).batches batch.begin batch.total) refl)

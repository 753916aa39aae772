-- What a future makes of the calls of a job.
use Rattle.std.proofs.Common.{◌≡◌, ◌⊎◌, inl, inr, ℕ, ◌+◌, ◌<◌, ◌≤◌, Bool, true, false, not, ◌||◌, ◌&&◌, ◌==◌, nat_lt, nat_le, max, List, [], ◌∷◌, ◌++◌, Option, None, Some, Result, Ok, Err, IsOk, OnErr, All, IsTrue, length, if◌then◌else◌, refl, ap, sym, ◌∙◌, subst, append-nil, arith}
use Rattle.std.specs.List.{find, flat_map, list_any, range_with_len}
use Rattle.std.proofs.lemmas.Bool.Decides.{nat_tests}
use Rattle.std.proofs.lemmas.Grind.{flat_map-append}
use Rattle.std.proofs.lemmas.List.Elements.{All-head, All-tail, All-cons, All-nil}
use Rattle.qtc_base.specs.declared.memory.NoMemory.{NoMemory}
use Rattle.qtc_base.specs.Limits.{most_end}
use Rattle.qtc_events.specs.Calls.{has_effect, range_end}
use Rattle.qtc_events.specs.Flags.{Standing}
use Rattle.qtc_events.specs.declared.calls.Call.{Call}
use Rattle.qtc_events.specs.declared.calls.Call.TheVariants.{Start, Report, Account, Suspend, Resume, ReportSuspended, Cancel, Fail, Finish}
use Rattle.qtc_events.specs.declared.entries.Entry.{Entry}
use Rattle.qtc_future.specs.Answering.{IsStep, is_idle}
use Rattle.qtc_future.specs.Future.{Future, Logged, batch_of, batches_in, flags_of, reports_of, results_of}
use Rattle.qtc_future.specs.Legal.{AreEffective, IsAcceptable, IsEffective}
use Rattle.qtc_future.specs.Steps.{Stepped, Told, Effect, Accepted, Dropped, Taken, PastEnd, accepted, by_row, dropped, has_ended, judged, logged_by, offered, stays, with_call, with_report}
use Rattle.qtc_shared.specs.Laws.{is_ended}
use Rattle.qtc_shared.specs.Passes.{is_accepted}
use Rattle.qtc_store.specs.Adds.{store_of}
use Rattle.qtc_store.specs.Batches.{covers, end_of, greatest_end, in_order, is_covered, least_covered}
use Rattle.qtc_store.specs.Stored.{Stored, batch_with, goes_at, refusal, refusal_of}
use Rattle.qtc_store.specs.declared.batch.Batch.{Batch}
use Rattle.qtc_store.proofs.Offers.{greatest_end-in_order}
use Rattle.qtc_tasks.specs.Inside.{end_at}
use Rattle.qtc_tasks.specs.TaskJournals.{is_full}

-- ---- calls that a row of the table decides

abbrev wanted : Result Bool NoMemory
wanted = Err (record {})

abbrev effect_in : Told → Bool
effect_in (Effect effect) = effect
effect_in _ = false

module _ {V : Type 0} where
  abbrev row_at : Future V → ℕ → Call → List ℕ → Bool → Stepped V
  row_at future caller call item effect =
      if effect
      then record { future = with_call future (logged_by future caller call [] item); told = Effect effect }
      else stays future (Effect effect)

  -- what such a call adds to the journal
  abbrev pub own_of : Future V → ℕ → Call → List ℕ → Bool → List (Logged V)
  own_of future caller call item effect = if effect then logged_by future caller call [] item ∷ [] else []

  at_row : (future after : Future V) (caller : ℕ) (call : Call) (item : List ℕ) (effect b : Bool) → IsStep (row_at future caller call item b) after (Effect effect)
      → (effect ≡ b) × (after.calls ≡ future.calls ++ own_of future caller call item effect)
  at_row future after caller call item effect true step =
      let same : effect ≡ true = ap effect_in step.answer in
      (same, ap (λ f. f.calls) step.future ∙ ap (λ e. future.calls ++ own_of future caller call item e) (sym same))
  at_row future after caller call item effect false step =
      let same : effect ≡ false = ap effect_in step.answer in
      (same, ap (λ f. f.calls) step.future ∙ sym (append-nil future.calls) ∙ ap (λ e. future.calls ++ own_of future caller call item e) (sym same))

  pub by_its_row : (future after : Future V) (caller : ℕ) (call : Call) (item : List ℕ) (effect : Bool) → IsStep (by_row future caller call item) after (Effect effect)
      → (effect ≡ has_effect (flags_of future) call) × (after.calls ≡ future.calls ++ own_of future caller call item effect)
  by_its_row future after caller call item effect step = at_row future after caller call item effect (has_effect (flags_of future) call) step

  -- a row that wants memory has an effect
  pub row_wants : (future : Future V) (caller : ℕ) (call : Call) (item : List ℕ) → (IsTrue (is_idle (by_row future caller call item).told) → IsOk wanted) → has_effect (flags_of future) call ≡ true
  row_wants future caller call item sure = by (has_effect (flags_of future) call) sure
    where
      by : (b : Bool) → (IsTrue (is_idle (row_at future caller call item b).told) → IsOk wanted) → b ≡ true
      by true f = refl
      by false f = absurd (let none = f refl in cc)

-- ---- a value without an index

abbrev was_ended : Told → Bool
was_ended (Dropped flags) = true
was_ended _ = false

module _ {V : Type 0} where
  abbrev judged_at : Future V → ℕ → Batch V → Option ℕ → Bool → Stepped V
  judged_at future caller batch (Some index) past = stays future (Taken index)
  judged_at future caller batch None past = if past then stays future PastEnd else accepted future caller batch

  judged_is : (future : Future V) (caller : ℕ) (batch : Batch V) (least : Option ℕ) → judged future caller batch least ≡ judged_at future caller batch least (nat_lt most_end (end_of batch))
  judged_is future caller batch (Some index) = refl
  judged_is future caller batch None = refl

  abbrev offer_at : Future V → ℕ → Batch V → Bool → Option ℕ → Bool → Stepped V
  offer_at future caller batch ended least past = if ended then dropped future else judged_at future caller batch least past

  -- where the last batch ends nothing is covered
  pub none_covers : (batches : List (Batch V)) (index : ℕ) → greatest_end batches ≤ index → is_covered batches index ≡ false
  none_covers [] index past = refl
  none_covers (batch ∷ batches) index past =
      let rest = none_covers batches index (omega arith) in
      let first : covers index batch ≡ false = grind (arith, nat_tests) in
      rw (first, rest) refl

  pub ends_together : (xs ys : List (Batch V)) → greatest_end (xs ++ ys) ≡ max (greatest_end xs) (greatest_end ys)
  ends_together [] ys = omega arith
  ends_together (batch ∷ xs) ys = omega (arith, ends_together xs ys)

  pub end_later : (first later : List (Logged V)) → end_at (first ++ later) ≡ max (end_at first) (end_at later)
  end_later first later = ap greatest_end (flat_map-append batches_in first later) ∙ ends_together (reports_of first) (reports_of later)

  offered_is : (future : Future V) (caller : ℕ) (batch : Batch V) → offered future caller batch ≡ offer_at future caller batch (has_ended future) (least_covered (results_of future).batches batch.begin batch.total) (nat_lt most_end (end_of batch))
  offered_is future caller batch = ap (λ s. if has_ended future then dropped future else s) (judged_is future caller batch (least_covered (results_of future).batches batch.begin batch.total))

  -- an offer that is accepted
  pub record IsTaken (future after : Future V) (caller : ℕ) (batch : Batch V) : Type 0 where
    pub going : has_ended future ≡ false
    pub room : end_of batch ≤ most_end
    pub after_is : after ≡ with_report future caller batch

  taken_at : (future after : Future V) (caller : ℕ) (batch : Batch V) (ended : Bool) (least : Option ℕ) (past : Bool)
      → has_ended future ≡ ended → nat_lt most_end (end_of batch) ≡ past
      → after ≡ (offer_at future caller batch ended least past).future → true ≡ is_accepted (offer_at future caller batch ended least past).told → IsTaken future after caller batch
  taken_at future after caller batch true least past e f is told = absurd (cc)
  taken_at future after caller batch false (Some index) past e f is told = absurd (cc)
  taken_at future after caller batch false None true e f is told = absurd (cc)
  taken_at future after caller batch false None false e f is told = record { going = e; room = grind (arith, nat_tests); after_is = is }

  pub taken : (future after : Future V) (caller : ℕ) (batch : Batch V) → after ≡ (offered future caller batch).future → true ≡ is_accepted (offered future caller batch).told → IsTaken future after caller batch
  taken future after caller batch is told =
      let same = offered_is future caller batch in
      taken_at future after caller batch (has_ended future) _ (nat_lt most_end (end_of batch)) refl refl (is ∙ ap (λ s. s.future) same) (told ∙ ap (λ s. is_accepted s.told) same)

  -- an offer that isn't
  pub record IsLeftOut (future after : Future V) (batch : Batch V) : Type 0 where
    pub after_is : after ≡ future
    pub why : (has_ended future ≡ false) → (least_covered (results_of future).batches batch.begin batch.total ≡ None) → most_end < end_of batch

  left_out_at : (future after : Future V) (caller : ℕ) (batch : Batch V) (ended : Bool) (least : Option ℕ) (past : Bool)
      → has_ended future ≡ ended → least_covered (results_of future).batches batch.begin batch.total ≡ least → nat_lt most_end (end_of batch) ≡ past
      → after ≡ (offer_at future caller batch ended least past).future → false ≡ is_accepted (offer_at future caller batch ended least past).told → IsLeftOut future after batch
  left_out_at future after caller batch true least past e l f is told = record { after_is = is; why = λ going none. absurd (cc) }
  left_out_at future after caller batch false (Some index) past e l f is told = record { after_is = is; why = λ going none. absurd (cc) }
  left_out_at future after caller batch false None true e l f is told = record { after_is = is; why = λ going none. grind (arith, nat_tests) }
  left_out_at future after caller batch false None false e l f is told = absurd (cc)

  pub left_out : (future after : Future V) (caller : ℕ) (batch : Batch V) → after ≡ (offered future caller batch).future → false ≡ is_accepted (offered future caller batch).told → IsLeftOut future after batch
  left_out future after caller batch is told =
      let same = offered_is future caller batch in
      left_out_at future after caller batch (has_ended future) _ (nat_lt most_end (end_of batch)) refl refl refl (is ∙ ap (λ s. s.future) same) (told ∙ ap (λ s. is_accepted s.told) same)

  -- an offer that wants memory meets no end
  pub offer_wants : (future : Future V) (caller : ℕ) (batch : Batch V) → (IsTrue (is_idle (offered future caller batch).told) → IsOk wanted) → has_ended future ≡ false
  offer_wants future caller batch sure = by (has_ended future) sure
    where
      by : (b : Bool) → (IsTrue (is_idle (if b then dropped future else judged future caller batch (least_covered (results_of future).batches batch.begin batch.total)).told) → IsOk wanted) → b ≡ false
      by true f = absurd (let none = f refl in cc)
      by false f = refl

  -- where the last batch ends nothing is covered, so a value without an index is refused for want of places alone
  pub none_at_end : (future : Future V) → least_covered (results_of future).batches (goes_at (results_of future) None) 1 ≡ None
  none_at_end future =
      let batches = (results_of future).batches in
      let free = none_covers batches (greatest_end batches) (omega arith) in
      ap (λ b. if b then Some (greatest_end batches) else None) free

-- What a step leaves: the future on its terms, with its caller's call at the end or as it was.
use Rattle.std.proofs.Common.{◌≡◌, inl, inr, ◌<◌, ℕ, Bool, true, false, List, [], Result, Ok, Err, if◌then◌else◌, IsTrue, refl, ap, sym, ◌∙◌, subst, arith}
use Rattle.qtc_base.specs.declared.memory.NoMemory.{NoMemory}
use Rattle.qtc_events.specs.Calls.{has_effect}
use Rattle.qtc_events.specs.declared.calls.Call.{Call}
use Rattle.qtc_events.specs.declared.calls.Call.TheVariants.{Suspend, Resume}
use Rattle.qtc_future.specs.Answering.{IsStep, IsTry}
use Rattle.qtc_future.specs.Future.{Future, Logged, flags_of}
use Rattle.qtc_future.specs.Runs.{CanAsk}
use Rattle.qtc_future.specs.Steps.{Told, Effect, by_row, logged_by, stays, step, with_call}
use Rattle.qtc_future.specs.declared.requests.Request.{Request}
use Rattle.qtc_future.specs.declared.requests.Request.TheVariants.{SetSuspended}
use Rattle.qtc_future.proofs.Legality.{journals_grow_by_one}
use Rattle.qtc_shared.specs.Journals.{Follows, IsAllowed, is_makers}
use Rattle.qtc_shared.specs.Parts.{Terms, PassPart, future_at}
use Rattle.qtc_shared.specs.Passes.{FutureId}
use Rattle.qtc_shared.specs.Rule.{journal_in}
use Rattle.qtc_shared.specs.Inside.{IsLentSeat, pass_in, number_in, journal_of}
use Rattle.qtc_shared.specs.declared.rule.View.{View}
use Rattle.atomic_table.specs.declared.shared.Seat.{Seat}

-- the future is on the terms, and its journal follows
pub record IsAfter {V : Type 0} (terms : Terms) (number : ℕ) (before : List (Logged V)) (after : Future V) : Type 0 where
  pub core : after ≡ future_at terms after.calls
  pub call : Follows terms number before after.calls

module _ {V : Type 0} (terms : Terms) (number : ℕ) (journal : List (Logged V)) where
  same_after : IsAfter terms number journal (future_at terms journal)
  same_after = record { core = refl; call = inl refl }

  more_after : (logged : Logged V) → logged.entry.caller ≡ number → IsAllowed terms.makers logged → IsAfter terms number journal (with_call (future_at terms journal) logged)
  more_after logged caller allowed = record { core = refl; call = inr (logged, record { caller = caller; allowed = allowed; longer = refl }) }

  -- a call that anybody may make
  row_after : (call : Call) → is_makers call ≡ false → IsAfter terms number journal (by_row (future_at terms journal) number call []).future
  row_after call free = by (has_effect (flags_of (future_at terms journal)) call)
    where
      logged : Logged V
      logged = logged_by (future_at terms journal) number call [] []

      not_so : IsTrue (is_makers call) → number < terms.makers
      not_so h = absurd (cc)

      by : (b : Bool) → IsAfter terms number journal (if b then (record { future = with_call (future_at terms journal) logged; told = Effect b }) else (stays (future_at terms journal) (Effect b))).future
      by true = record { core = refl; call = inr (logged, record { caller = refl; allowed = record { maker = not_so }; longer = refl }) }
      by false = same_after

  toggle_free : (on : Bool) → is_makers (if on then Suspend else Resume) ≡ false
  toggle_free true = refl
  toggle_free false = refl

  pub toggle_after : (on : Bool) → IsAfter terms number journal (step (future_at terms journal) number (SetSuspended on)).future
  toggle_after on = row_after (if on then Suspend else Resume) (toggle_free on)

  -- a call that a maker makes
  pub maker_after : (request : Request V) → CanAsk terms.filter request → number < terms.makers → IsAfter terms number journal (step (future_at terms journal) number request).future
  maker_after request can maker = elim (journals_grow_by_one V (future_at terms journal) number request can) [
    | inl same ↦ subst (IsAfter terms number journal) (sym same) same_after
    | inr more ↦ subst (IsAfter terms number journal) (sym more.1.after)
        (more_after more.0 more.1.made (record { maker = λ _. let is = more.1.made in omega arith }))
  ]

  pub step_after : (request : Request V) (core after : Future V) (told : Told) → core ≡ future_at terms journal → IsAfter terms number journal (step (future_at terms journal) number request).future
      → IsStep (step core number request) after told → IsAfter terms number journal after
  step_after request core after told is good stepped =
      subst (IsAfter terms number journal) (sym (stepped.future ∙ ap (λ f. (step f number request).future) is)) good

  pub try_after : {T : Type 0} (request : Request V) (core after : Future V) (told : T → Told) (result : Result T NoMemory) → core ≡ future_at terms journal
      → IsAfter terms number journal (step (future_at terms journal) number request).future → IsTry core (step core number request) told after result → IsAfter terms number journal after
  try_after request core after told (Ok answer) is good tried = step_after request core after (told answer) is good tried.ok
  try_after request core after told (Err e) is good tried = subst (IsAfter terms number journal) (sym (tried.err ∙ is)) same_after

-- at the seat of a pass that is lent
pub at_lent : {V : Type 0} (of : FutureId) (pass : PassPart V) (made : ℕ) (journal : List (Logged V)) (seat : Seat (Unit {0}) (View V)) (after : Future V)
    → IsLentSeat of pass made journal seat → IsAfter of.terms pass.number journal after → Follows of.terms (number_in seat) (journal_of seat) after.calls
at_lent of pass made journal seat after lent good =
    let n : number_in seat ≡ pass.number = ap (λ m. (pass_in m.0.passes).number) lent.me in
    let j : journal_of seat ≡ journal = ap (λ m. journal_in m.0.books) lent.me in
    subst (λ x. Follows of.terms x (journal_of seat) after.calls) (sym n) (subst (λ x. Follows of.terms pass.number x after.calls) (sym j) good.call)

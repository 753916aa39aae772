-- A store whose last place is taken.
use Rattle.std.proofs.Common.{◌≡◌, ◌⊎◌, ℕ, ◌+◌, ◌<◌, ◌≤◌, Bool, true, false, ◌||◌, ◌==◌, nat_lt, max, List, [], ◌∷◌, ◌++◌, Option, None, Some, All, IsTrue, refl, ap, sym, ◌∙◌, subst, arith}
use Rattle.std.specs.List.{list_any}
use Rattle.std.proofs.lemmas.Bool.Decides.{nat_tests}
use Rattle.std.proofs.lemmas.List.Elements.{All-head, All-tail, All-cons, All-nil}
use Rattle.qtc_base.specs.Limits.{most_end}
use Rattle.qtc_events.specs.Calls.{range_end}
use Rattle.qtc_events.specs.declared.calls.Call.{Call}
use Rattle.qtc_events.specs.declared.calls.Call.TheVariants.{Start, Report, Account, Suspend, Resume, ReportSuspended, Cancel, Fail, Finish}
use Rattle.qtc_future.specs.Future.{Future, Logged, batch_of, batches_in, reports_of, results_of}
use Rattle.qtc_future.specs.Legal.{AreEffective, IsAcceptable}
use Rattle.qtc_future.specs.Steps.{with_call}
use Rattle.qtc_store.specs.Batches.{greatest_end}
use Rattle.qtc_store.specs.Stored.{Stored, refusal, refusal_of}
use Rattle.qtc_store.specs.declared.batch.Batch.{Batch}
use Rattle.qtc_store.specs.declared.batch.AddFault.{AddFault}
use Rattle.qtc_tasks.specs.Inside.{end_at}
use Rattle.qtc_tasks.specs.TaskJournals.{is_full}
use Rattle.qtc_tasks.proofs.Answered.{ends_together}

refused_past : (least : Option ℕ) (end : ℕ) → refusal least end ≡ None → end ≤ most_end
refused_past (Some index) end e = absurd (cc)
refused_past None end e = grind (arith, nat_tests)

either_full : (end rest : ℕ) (full : Bool) → most_end ≤ max end rest → end ≤ most_end → (most_end ≤ rest → full ≡ true) → ((end == most_end) || full) ≡ true
either_full end rest full most inside then = by (end == most_end) refl
  where
    by : (b : Bool) → (end == most_end) ≡ b → (b || full) ≡ true
    by true e = refl
    by false e = then (grind (arith, nat_tests))

module _ {V : Type 0} where
  pub record IsInside (logged : Logged V) : Type 0 where
    pub end : range_end logged.entry.call ≤ most_end

  ends_inside : (store : Stored V) (call : Call) (values : List V) → All (IsAcceptable store) (batch_of call values) → range_end call ≤ most_end
  ends_inside store (Report begin kept total) values fit =
      let one = All-head (IsAcceptable store) (record { begin = begin; values = values; total = total }) [] fit in
      refused_past _ (begin + total) one.unrefused
  ends_inside store Start values fit = omega arith
  ends_inside store (Account total) values fit = omega arith
  ends_inside store Suspend values fit = omega arith
  ends_inside store Resume values fit = omega arith
  ends_inside store ReportSuspended values fit = omega arith
  ends_inside store Cancel values fit = omega arith
  ends_inside store (Fail index) values fit = omega arith
  ends_inside store Finish values fit = omega arith

  pub all_inside : (future : Future V) (calls : List (Logged V)) → AreEffective future calls → All IsInside calls
  all_inside future [] effective = All-nil IsInside
  all_inside future (logged ∷ calls) effective =
      All-cons IsInside logged calls (record { end = ends_inside (results_of future) logged.entry.call logged.values effective.0.batch })
      (all_inside (with_call future logged) calls effective.1)

  call_end : (call : Call) (values : List V) → greatest_end (batch_of call values) ≡ range_end call
  call_end (Report begin kept total) values = omega arith
  call_end Start values = refl
  call_end (Account total) values = refl
  call_end Suspend values = refl
  call_end Resume values = refl
  call_end ReportSuspended values = refl
  call_end Cancel values = refl
  call_end (Fail index) values = refl
  call_end Finish values = refl

  -- where reports reach the last place one ends there
  pub full_at : (journal : List (Logged V)) → All IsInside journal → most_end ≤ end_at journal → is_full journal ≡ true
  full_at [] inside most = absurd (omega arith)
  full_at (logged ∷ journal) inside most =
      let both : end_at (logged ∷ journal) ≡ max (greatest_end (batches_in logged)) (end_at journal) = ends_together (batches_in logged) (reports_of journal) in
      let first : greatest_end (batches_in logged) ≡ range_end logged.entry.call = call_end logged.entry.call logged.values in
      either_full (range_end logged.entry.call) (end_at journal) (is_full journal)
      (subst (λ n. most_end ≤ max n (end_at journal)) first (subst (λ n. most_end ≤ n) both most))
      (All-head IsInside logged journal inside).end
      (full_at journal (All-tail IsInside logged journal inside))

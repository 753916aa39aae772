-- Futures that were waited for.
use Rattle.std.proofs.Common.{◌≡◌, ℕ, ◌<◌, Bool, true, false, ◌||◌, List, [], ◌∷◌, ◌++◌, IsTrue, length, refl, ap, sym, ◌∙◌, subst}
use Rattle.std.specs.List.{list_any}
use Rattle.std.specs.Prelude.{slice_index_or}
use Rattle.std.proofs.lemmas.List.Folds.{list_any-append}
use Rattle.qtc_events.specs.Calls.{after, finishes}
use Rattle.qtc_events.specs.Flags.{Standing}
use Rattle.qtc_events.specs.declared.calls.Call.{Call}
use Rattle.qtc_events.specs.declared.entries.Reached.{Reached}
use Rattle.qtc_events.proofs.Rows.{finished_after}
use Rattle.qtc_future.specs.Future.{Future}
use Rattle.qtc_shared.specs.Journals.{flags_at}
use Rattle.qtc_shared.specs.Laws.{is_finished}
use Rattle.qtc_shared.specs.Passes.{PassState, Finds, IsHold, IsWatch, Stays}
use Rattle.qtc_shared.proofs.Chains.{nothing_done}
use Rattle.qtc_shared.proofs.Staying.{met_stays}
use Rattle.qtc_tasks.specs.Waits.{CancelsWhere, EachOf, EachWaitedFor, IsWaitedFor}

or_left : (a b : Bool) → IsTrue a → IsTrue (a || b)
or_left true b h = refl
or_left false b h = absurd (cc)

or_right : (a b : Bool) → IsTrue b → IsTrue (a || b)
or_right true b h = refl
or_right false b h = h

finished_stays : (s : Standing) (call : Call) (reached : Reached) → IsTrue (is_finished s) → IsTrue (is_finished (after s call reached))
finished_stays s call reached h = subst IsTrue (sym (finished_after s call reached)) (or_left s.finished (finishes call) h)

module _ {V : Type 0} where
  pub waited_for : (old watched new : PassState V) (flags : Standing) (IsThere : Future V → Type 0) → IsWatch old watched flags → IsTrue flags.finished → IsHold watched new (Finds IsThere) → IsWaitedFor false old new
  waited_for old watched new flags IsThere watch finished hold =
      let still = nothing_done watched new IsThere hold in
      let seen : watched.seen ≡ old.seen ++ (watch.before ++ flags ∷ []) = ap (λ p. p.seen) watch.pass in
      let last : IsTrue (list_any is_finished watched.seen) =
      subst (λ s. IsTrue (list_any is_finished s)) (sym seen)
      (subst IsTrue (sym (list_any-append is_finished old.seen (watch.before ++ flags ∷ [])))
      (or_right (list_any is_finished old.seen) _
      (subst IsTrue (sym (list_any-append is_finished watch.before (flags ∷ [])))
      (or_right (list_any is_finished watch.before) _ (or_left flags.finished false finished))))) in
      let stands = met_stays is_finished finished_stays watched still.journal still.met (or_right (is_finished (flags_at watched.known)) _ last) in
      let known : new.known ≡ still.journal = ap (λ f. f.calls) still.done in
      record {
        canceled = old;
        cancels = refl;
        watched = watched;
        flags = flags;
        watch = watch;
        finished = finished;
        hold = still;
        knows = subst (λ j. IsTrue (flags_at j).finished) (sym known) stands;
      }

  waits_after : (cancel : Bool) (old between new : PassState V) → CancelsWhere cancel old between → IsWaitedFor false between new → IsWaitedFor cancel old new
  waits_after cancel old between new cancels waits = record {
    canceled = between;
    cancels = cancels;
    watched = waits.watched;
    flags = waits.flags;
    watch = subst (λ p. IsWatch p waits.watched waits.flags) waits.cancels waits.watch;
    finished = waits.finished;
    hold = waits.hold;
    knows = waits.knows;
  }

  pub both_each : (cancel : Bool) (old between new : List (PassState V)) → EachOf (CancelsWhere cancel) old between → EachOf (IsWaitedFor false) between new → EachWaitedFor cancel old new
  both_each cancel old between new first second = record {
    count = second.count ∙ first.count;
    each = λ index other less. waits_after cancel (slice_index_or old index other) (slice_index_or between index other) (slice_index_or new index other)
        (first.each index other less) (second.each index other (subst (λ n. index < n) (sym first.count) less));
  }

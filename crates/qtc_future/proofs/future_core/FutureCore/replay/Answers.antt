use Rattle.std.proofs.Common.{◌≡◌, ℕ, List, [], ◌∷◌, ◌++◌, IfOk, map, refl, ap, sym, ◌∙◌, subst}
use Rattle.std.proofs.lemmas.Bool.{false≢true}
use Rattle.qtc_base.specs.Ranges.{bounds_of}
use Rattle.qtc_events.specs.Flags.{Standing, flags_in}
use Rattle.qtc_events.specs.Journal.{flags_after_all}
use Rattle.qtc_events.specs.Replay.{told_where, suspension_told, ranges_told, replayed}
use Rattle.qtc_events.specs.declared.events.Event.TheVariants.{Started, Canceled, Finished}
use Rattle.qtc_store.specs.Stored.{ranges_of}
use Rattle.qtc_future.specs.Future.{Future, flags_of, results_of}
use Rattle.qtc_future.proofs.OneMore.{entries-read}
use Rattle.qtc_future.proofs.future_core.FutureCore.replay.Goals as goal

none_left : {A : Type 0} (xs ys : List A) → xs ++ ys ≡ [] → xs ≡ []
none_left [] ys e = refl
none_left (x ∷ xs) ys e = absurd (cc)

none_right : {A : Type 0} (xs ys : List A) → xs ++ ys ≡ [] → ys ≡ []
none_right [] ys e = e
none_right (x ∷ xs) ys e = absurd (cc)

-- where nothing is told there are no ranges
no_ranges : (s : Standing) (ranges : List (ℕ × ℕ)) → replayed s ranges ≡ [] → ranges ≡ []
no_ranges s [] e = refl
no_ranges s (range ∷ ranges) e =
    let front = told_where s.started Started in
    let middle = front ++ ranges_told (range ∷ ranges) in
    let most = middle ++ suspension_told s in
    let told : ranges_told (range ∷ ranges) ≡ [] = none_right front (ranges_told (range ∷ ranges)) (none_left middle (suspension_told s) (none_left most (told_where s.canceled Canceled) (none_left (most ++ told_where s.canceled Canceled) (told_where s.finished Finished) e))) in
    absurd (cc)

pub returns-in_err-ranges-clause-sure : goal.returns-in_err-ranges-clause-sure
returns-in_err-ranges-clause-sure g c none =
    let future = c.args.self.now in
    let ranges = ap ranges_of c.self.invariant.results ∙ ap (λ (f : Future _). ranges_of (results_of f)) c.self.view_is in
    absurd (false≢true (c.in_err-ranges.ensures.sure (ranges ∙ no_ranges (flags_of future) (ranges_of (results_of future)) none)))

pub returns-clause-ok : goal.returns-clause-ok
returns-clause-ok g c =
    let inside = c.self.inside in
    let future = c.args.self.now in
    let ready = c.as_slice.result.now in
    let flags : flags_in c.flags.result.bits ≡ flags_of future =
    c.flags.ensures
    ∙ sym (ap flags_after_all (entries-read inside.store.batches inside.failure inside.book.journal))
    ∙ ap flags_of c.self.view_is in
    let ranges : map bounds_of ready ≡ ranges_of (results_of future) =
    ap (map bounds_of) c.as_slice.ensures
    ∙ c.in_ok-ranges.ensures.ranges
    ∙ ap ranges_of c.self.invariant.results
    ∙ ap (λ (f : Future _). ranges_of (results_of f)) c.self.view_is in
    subst (λ told. IfOk c.replay.result (λ events. events ≡ told)) (ap (λ s. replayed s (map bounds_of ready)) flags ∙ ap (replayed (flags_of future)) ranges) c.replay.ensures.ok

-- Journals of effective calls.
use Rattle.std.proofs.Common.{◌≡◌, Bool, false, ◌&&◌, List, [], ◌∷◌, ◌++◌, fold, All, IsTrue, refl, ◌∙◌, arith}
use Rattle.std.proofs.lemmas.List.Elements.{All-nil, All-cons}
use Rattle.qtc_events.specs.Flags.{Standing, new_flags}
use Rattle.qtc_events.specs.Calls.{has_effect, after_call, after, acts_as, after_acting}
use Rattle.qtc_events.specs.Journal.{after_entry, entry_has_effect, acts_with_effect, HaveEffect}
use Rattle.qtc_events.specs.Laws.{JournalsEnd, SuspensionIsOne}
use Rattle.qtc_events.specs.declared.calls.Call.{Call}
use Rattle.qtc_events.specs.declared.calls.Call.TheVariants.{Suspend, Cancel, Finish}
use Rattle.qtc_events.specs.declared.entries.Reached.{Reached}
use Rattle.qtc_events.specs.declared.entries.Reached.TheVariants.{Nothing, Suspend as ReachedSuspend, Cancel as ReachedCancel}
use Rattle.qtc_events.specs.declared.entries.Entry.{Entry}

-- ---- one call
cancel_stays : (s : Standing) (call : Call) (reached : Reached) → IsTrue s.canceled → IsTrue (after s call reached).canceled
cancel_stays s call reached h = grind arith

only_finish : (s : Standing) (call : Call) → IsTrue s.canceled → IsTrue (has_effect s call) → call ≡ Finish
only_finish s call h e = grind arith

nothing_after : (s : Standing) (call : Call) → IsTrue s.finished → IsTrue (has_effect s call) → ⊥
nothing_after s call h e = grind arith

and_left : (a b : Bool) → IsTrue (a && b) → IsTrue a
and_left a b h = grind arith

throttled_stays : (s : Standing) (call : Call) (reached : Reached) → (after s call reached).throttled ≡ s.throttled
throttled_stays s call reached = grind arith

-- Suspending and Suspended do not stand together
abbrev IsOneSuspension : Standing → Type 0
IsOneSuspension s = IsTrue s.suspending → s.suspended ≡ false

one_suspension_after : (s : Standing) (call : Call) → IsTrue (has_effect s call) → IsOneSuspension s → IsOneSuspension (after_call s call)
one_suspension_after s call h one = grind arith

one_suspension_acting : (s : Standing) (reached : Reached) → IsTrue (acts_with_effect s (acts_as reached)) → IsOneSuspension s → IsOneSuspension (after_acting s (acts_as reached))
one_suspension_acting s Nothing h one = one
one_suspension_acting s ReachedSuspend h one = one_suspension_after s Suspend h one
one_suspension_acting s ReachedCancel h one = one_suspension_after s Cancel h one

and_right : (a b : Bool) → IsTrue (a && b) → IsTrue b
and_right a b h = grind arith

one_suspension_entry : (s : Standing) (entry : Entry) → IsTrue (entry_has_effect s entry) → IsOneSuspension s → IsOneSuspension (after_entry s entry)
one_suspension_entry s entry h one =
    one_suspension_acting (after_call s entry.call) entry.reached (and_right _ _ h) (one_suspension_after s entry.call (and_left _ _ h) one)

-- ---- a journal
rest_has_effect : (s : Standing) (earlier later : List Entry) → HaveEffect s (earlier ++ later) → HaveEffect (fold after_entry s earlier) later
rest_has_effect s [] later h = h
rest_has_effect s (entry ∷ earlier) later h = rest_has_effect (after_entry s entry) earlier later h.1

finish_alone : (s : Standing) (journal : List Entry) → IsTrue s.canceled → HaveEffect s journal → All (λ entry. entry.call ≡ Finish) journal
finish_alone s [] stands h = All-nil (λ (entry : Entry). entry.call ≡ Finish)
finish_alone s (entry ∷ journal) stands h =
    All-cons (λ (entry : Entry). entry.call ≡ Finish) entry journal
    (only_finish s entry.call stands (and_left _ _ h.0))
    (finish_alone (after_entry s entry) journal (cancel_stays s entry.call entry.reached stands) h.1)

none_left : (s : Standing) (journal : List Entry) → IsTrue s.finished → HaveEffect s journal → journal ≡ []
none_left s [] stands h = refl
none_left s (entry ∷ journal) stands h = absurd (nothing_after s entry.call stands (and_left _ _ h.0))

pub journals_end : JournalsEnd
journals_end = record {
  after_cancel = λ earlier later h stands. finish_alone _ later stands (rest_has_effect new_flags earlier later h);
  after_finish = λ earlier later h stands. none_left _ later stands (rest_has_effect new_flags earlier later h);
}

throttled_after : (s : Standing) (journal : List Entry) → (fold after_entry s journal).throttled ≡ s.throttled
throttled_after s [] = refl
throttled_after s (entry ∷ journal) =
    throttled_after (after_entry s entry) journal ∙ throttled_stays s entry.call entry.reached

one_suspension_left : (s : Standing) (journal : List Entry) → HaveEffect s journal → IsOneSuspension s → IsOneSuspension (fold after_entry s journal)
one_suspension_left s [] h one = one
one_suspension_left s (entry ∷ journal) h one =
    one_suspension_left (after_entry s entry) journal h.1 (one_suspension_entry s entry h.0 one)

pub suspension_is_one : SuspensionIsOne
suspension_is_one = record {
  throttled = throttled_after new_flags;
  one = λ journal h. one_suspension_left new_flags journal h (λ _. refl);
}

-- What a late watcher is told.
use Rattle.std.proofs.Common.{◌≡◌, ℕ, ◌⊎◌, inl, inr, zero, suc, Bool, true, false, List, [], ◌∷◌, ◌++◌, Contains, IsTrue, if◌then◌else◌, refl, sym, subst, arith}
use Rattle.std.proofs.lemmas.List.Elements.{Contains-append_left, Contains-append_right, Contains-append_cases}
use Rattle.qtc_events.specs.Flags.{Standing}
use Rattle.qtc_events.specs.Replay.{told_where, suspension_told, ranges_told, replayed}
use Rattle.qtc_events.specs.Laws.{ReplayNamesStanding}
use Rattle.qtc_events.specs.declared.events.Event.{Event}
use Rattle.qtc_events.specs.declared.events.Event.TheVariants.{Started, Ready, Suspending, Suspended, Canceled, Finished}

-- not a Ready
abbrev IsOfFlag : Event → Type 0
IsOfFlag (Ready begin end) = ⊥
IsOfFlag _ = Unit {0}

contains_head : (x y : Event) (xs : List Event) → Contains (x ∷ xs) y → (x ≡ y) ⊎ Contains xs y
contains_head x y xs (zero, h, e) = inl e
contains_head x y xs (suc k, h, e) = inr (k, omega arith, e)

contains_none : (y : Event) → Contains [] y → ⊥
contains_none y (k, h, e) = absurd (omega arith)

no_range : (ranges : List (ℕ × ℕ)) (y : Event) → IsOfFlag y → Contains (ranges_told ranges) y → ⊥
no_range [] y h c = contains_none y c
no_range (range ∷ ranges) y h c =
    elim (contains_head (Ready range.0 range.1) y (ranges_told ranges) c) [
      | inl e ↦ subst (λ x. IsOfFlag x) (sym e) h
      | inr d ↦ no_range ranges y h d
    ]

told_gives : (b : Bool) (x y : Event) → Contains (told_where b x) y → IsTrue b × (x ≡ y)
told_gives true x y c = elim (contains_head x y [] c) [ inl e ↦ (refl, e) | inr d ↦ absurd (contains_none y d) ]
told_gives false x y c = absurd (contains_none y c)

told_stands : (b : Bool) (x : Event) → IsTrue b → Contains (told_where b x) x
told_stands true x h = (0, omega arith, refl)
told_stands false x h = absurd (cc)

-- where an event of a flag stands in the replay
parts : (s : Standing) (ranges : List (ℕ × ℕ)) (y : Event) → IsOfFlag y → Contains (replayed s ranges) y → Contains (told_where s.started Started) y ⊎ (Contains (suspension_told s) y ⊎ (Contains (told_where s.canceled Canceled) y ⊎ Contains (told_where s.finished Finished) y))
parts s ranges y h c =
    let front = told_where s.started Started in
    let middle = front ++ ranges_told ranges in
    let most = middle ++ suspension_told s in
    elim (Contains-append_cases (most ++ told_where s.canceled Canceled) (told_where s.finished Finished) y c) [
      | inr d ↦ inr (inr (inr d))
      | inl d ↦ elim (Contains-append_cases most (told_where s.canceled Canceled) y d) [
        | inr e ↦ inr (inr (inl e))
        | inl e ↦ elim (Contains-append_cases middle (suspension_told s) y e) [
          | inr f ↦ inr (inl f)
          | inl f ↦ elim (Contains-append_cases front (ranges_told ranges) y f) [
            | inr g ↦ absurd (no_range ranges y h g)
            | inl g ↦ inl g
          ]
        ]
      ]
    ]

-- and back
of_started : (s : Standing) (ranges : List (ℕ × ℕ)) (y : Event) → Contains (told_where s.started Started) y → Contains (replayed s ranges) y
of_started s ranges y c =
    Contains-append_left _ _ y (Contains-append_left _ _ y (Contains-append_left _ _ y (Contains-append_left _ _ y c)))

of_suspension : (s : Standing) (ranges : List (ℕ × ℕ)) (y : Event) → Contains (suspension_told s) y → Contains (replayed s ranges) y
of_suspension s ranges y c =
    Contains-append_left _ _ y (Contains-append_left _ _ y (Contains-append_right (told_where s.started Started ++ ranges_told ranges) _ y c))

of_canceled : (s : Standing) (ranges : List (ℕ × ℕ)) (y : Event) → Contains (told_where s.canceled Canceled) y → Contains (replayed s ranges) y
of_canceled s ranges y c =
    Contains-append_left _ _ y (Contains-append_right (told_where s.started Started ++ ranges_told ranges ++ suspension_told s) _ y c)

of_finished : (s : Standing) (ranges : List (ℕ × ℕ)) (y : Event) → Contains (told_where s.finished Finished) y → Contains (replayed s ranges) y
of_finished s ranges y c =
    Contains-append_right (told_where s.started Started ++ ranges_told ranges ++ suspension_told s ++ told_where s.canceled Canceled) _ y c

suspension_gives : (s : Standing) (y : Event) → Contains (suspension_told s) y → (IsTrue s.suspended × (Suspended ≡ y)) ⊎ (IsTrue s.suspending × (s.suspended ≡ false) × (Suspending ≡ y))
suspension_gives s y =
    elim s.suspended as (λ b. Contains (if b then Suspended ∷ [] else told_where s.suspending Suspending) y → (IsTrue b × (Suspended ≡ y)) ⊎ (IsTrue s.suspending × (b ≡ false) × (Suspending ≡ y))) [
      | true ↦ λ c. inl (told_gives true Suspended y c)
      | false ↦ λ c. let d = told_gives s.suspending Suspending y c in inr (d.0, refl, d.1)
    ]

suspended_stands : (s : Standing) → IsTrue s.suspended → Contains (suspension_told s) Suspended
suspended_stands s =
    elim s.suspended as (λ b. IsTrue b → Contains (if b then Suspended ∷ [] else told_where s.suspending Suspending) Suspended) [
      | true ↦ λ h. told_stands true Suspended h
      | false ↦ λ h. absurd (cc)
    ]

suspending_stands : (s : Standing) → IsTrue s.suspending → s.suspended ≡ false → Contains (suspension_told s) Suspending
suspending_stands s h =
    elim s.suspended as (λ b. b ≡ false → Contains (if b then Suspended ∷ [] else told_where s.suspending Suspending) Suspending) [
      | true ↦ λ e. absurd (cc)
      | false ↦ λ e. told_stands s.suspending Suspending h
    ]

-- each part names its own event alone
named : (s : Standing) (ranges : List (ℕ × ℕ)) (y : Event) → IsOfFlag y → Contains (replayed s ranges) y → (IsTrue s.started × (Started ≡ y)) ⊎ ((IsTrue s.suspended × (Suspended ≡ y)) ⊎ ((IsTrue s.suspending × (s.suspended ≡ false) × (Suspending ≡ y)) ⊎ ((IsTrue s.canceled × (Canceled ≡ y)) ⊎ (IsTrue s.finished × (Finished ≡ y)))))
named s ranges y h c =
    elim (parts s ranges y h c) [
      | inl d ↦ inl (told_gives s.started Started y d)
      | inr d ↦ elim d [
        | inl e ↦ elim (suspension_gives s y e) [ inl f ↦ inr (inl f) | inr f ↦ inr (inr (inl f)) ]
        | inr e ↦ elim e [
          | inl f ↦ inr (inr (inr (inl (told_gives s.canceled Canceled y f))))
          | inr f ↦ inr (inr (inr (inr (told_gives s.finished Finished y f))))
        ]
      ]
    ]

started_named : (s : Standing) (ranges : List (ℕ × ℕ)) → Contains (replayed s ranges) Started → IsTrue s.started
started_named s ranges c = let n = named s ranges Started tt c in grind arith

suspended_named : (s : Standing) (ranges : List (ℕ × ℕ)) → Contains (replayed s ranges) Suspended → IsTrue s.suspended
suspended_named s ranges c = let n = named s ranges Suspended tt c in grind arith

suspending_named : (s : Standing) (ranges : List (ℕ × ℕ)) → Contains (replayed s ranges) Suspending → IsTrue s.suspending × (s.suspended ≡ false)
suspending_named s ranges c = let n = named s ranges Suspending tt c in (grind arith, grind arith)

canceled_named : (s : Standing) (ranges : List (ℕ × ℕ)) → Contains (replayed s ranges) Canceled → IsTrue s.canceled
canceled_named s ranges c = let n = named s ranges Canceled tt c in grind arith

finished_named : (s : Standing) (ranges : List (ℕ × ℕ)) → Contains (replayed s ranges) Finished → IsTrue s.finished
finished_named s ranges c = let n = named s ranges Finished tt c in grind arith

pub replay_names_standing : ReplayNamesStanding
replay_names_standing = record {
  started = λ s ranges. (started_named s ranges, λ h. of_started s ranges Started (told_stands s.started Started h));
  suspended = λ s ranges. (suspended_named s ranges, λ h. of_suspension s ranges Suspended (suspended_stands s h));
  suspending = λ s ranges. (suspending_named s ranges, λ h. of_suspension s ranges Suspending (suspending_stands s h.0 h.1));
  canceled = λ s ranges. (canceled_named s ranges, λ h. of_canceled s ranges Canceled (told_stands s.canceled Canceled h));
  finished = λ s ranges. (finished_named s ranges, λ h. of_finished s ranges Finished (told_stands s.finished Finished h));
}

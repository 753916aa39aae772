-- What a watcher is told that connects late. (After QFutureWatcher; the order, and Ready where Canceled stands, is
-- own.)
use Rattle.std.specs.Prelude.{ℕ, Bool, if◌then◌else◌, List, [], ◌∷◌, ◌++◌, map}
use Rattle.qtc_events.specs.Flags.{Standing}
use Rattle.qtc_events.specs.declared.events.Event.{Event}
use Rattle.qtc_events.specs.declared.events.Event.TheVariants.{Started, Ready, Suspending, Suspended, Canceled, Finished}

-- the event, where its flag stands
abbrev pub told_where : Bool → Event → List Event
told_where b event = if b then event ∷ [] else []

-- Suspended where that stands, else Suspending where that does
abbrev pub suspension_told : Standing → List Event
suspension_told s = if s.suspended then Suspended ∷ [] else told_where s.suspending Suspending

-- one Ready for each of the stored batches
abbrev pub ranges_told : List (ℕ × ℕ) → List Event
ranges_told ranges = map (λ (range : ℕ × ℕ). Ready range.0 range.1) ranges

-- what a watcher is told that connects where these flags stand and the batches of results have these bounds
abbrev pub replayed : Standing → List (ℕ × ℕ) → List Event
replayed s ranges =
    told_where s.started Started ++ ranges_told ranges ++ suspension_told s
    ++ told_where s.canceled Canceled ++ told_where s.finished Finished

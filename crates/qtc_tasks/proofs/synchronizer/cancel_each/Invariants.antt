use Rattle.std.proofs.Common.{◌≡◌, ℕ, ◌<◌, ◌≤◌, false, get_or, length}
use Rattle.qtc_tasks.specs.Waits.{CancelsWhere, IsWaitedFor}
use Rattle.qtc_tasks.proofs.synchronizer.cancel_each.Given as goal

abbrev pub invariant-loop-one : goal.invariant-loop-one
invariant-loop-one g l =
    (length l.waited ≡ length l.initial.waited)
    × ((k : ℕ) (d : _) → k < l.one-index → CancelsWhere l.cancel (get_or l.initial.waited k d) (get_or l.waited k d))
    × ((k : ℕ) (d : _) → l.one-index ≤ k → get_or l.waited k d ≡ get_or l.initial.waited k d)

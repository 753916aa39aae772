use Rattle.std.proofs.Common.{◌≡◌, ◌+◌, [], All, length, count_by}
use Rattle.qtc_active.specs.Rule.{inside}
use Rattle.qtc_active.proofs.active_count.ActiveCount.count_all.Given as goal

-- the gatherer has the badges that are gone from the list
abbrev pub invariant-loop-badge : goal.invariant-loop-badge
invariant-loop-badge l = record {
  at : l.gatherer.table_id ≡ l.self.table;
  slots : l.gatherer.me.1 ≡ [];
  workers : l.gatherer.me.0.workers ≡ l.self.workers;
  of : All (λ badge. badge.of ≡ l.self) l.badges.items;
  badges : length l.gatherer.me.0.are_in + length l.badges.items ≡ length l.initial.badges.items;
  in_all : inside l.gatherer.me.0 + count_by (λ badge. badge.is_in) l.badges.items ≡ count_by (λ badge. badge.is_in) l.initial.badges.items;
}

abbrev pub decreases-loop-badge : goal.decreases-loop-badge
decreases-loop-badge l = goal.left-loop-badge l

use Rattle.std.proofs.Common.{◌≡◌, ◌≤◌, ◌+◌, vec_capacity, All, length}
use Rattle.qtc_active.specs.Count.{new_badge}
use Rattle.qtc_active.proofs.active_count.ActiveCount.new.Given as goal

-- the maker's view has the badges that are left to make
abbrev pub invariant-loop-made : goal.invariant-loop-made
invariant-loop-made l = record {
  at : l.maker.table_id ≡ l.table.shared.table_id;
  workers : l.maker.me.0.workers ≡ l.fn.workers;
  left : l._made + l.maker.me.0.unmade ≡ l.fn.workers;
  count : length l.badges.items ≡ l._made;
  room : l.fn.workers ≤ vec_capacity l.badges;
  each : All (λ badge. badge ≡ new_badge record { table = l.table.shared.table_id; workers = l.fn.workers }) l.badges.items;
}

use Rattle.std.proofs.Common.{◌≡◌, ◌+◌, ◌<◌, ◌≤◌, ℕ, vec_capacity, [], ◌∷◌, slice_get, Some, length}
use Rattle.qtc_claim.specs.Claims.{new_worker}
use Rattle.qtc_claim.specs.Rule.{new_book}
use Rattle.qtc_claim.proofs.counter.Counter.new.Given as goal

-- the tally's view has the numbers that are left, and the seats those that were given
abbrev pub invariant-loop-made : goal.invariant-loop-made
invariant-loop-made l = record {
  at : l.tally.table_id ≡ l.table.shared.table_id;
  slots : l.tally.me.1 ≡ [];
  n : l.tally.me.0.n ≡ l.limits.n;
  most : l.tally.me.0.most ≡ l.limits.workers;
  next : l.tally.me.0.next ≡ l._made;
  unmade : l._made + l.tally.me.0.unmade ≡ l.limits.workers;
  workers : l.tally.me.0.workers ≡ [];
  held : l.tally.me.0.held ≡ [];
  receipts : l.tally.me.0.receipts ≡ [];
  books : l.tally.me.0.books ≡ new_book ∷ [];
  count : length l.seats.items ≡ l._made;
  room : l.limits.workers ≤ vec_capacity l.seats;
  each : (i : ℕ) → i < l._made → slice_get l.seats.items i ≡ Some (record { of = record { table = l.table.shared.table_id; n = l.limits.n; workers = l.limits.workers }; worker = new_worker i });
}

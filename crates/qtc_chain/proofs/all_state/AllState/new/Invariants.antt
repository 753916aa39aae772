use Rattle.std.proofs.Common.{◌≡◌, ◌≤◌, None, vec_capacity, replicate}
use Rattle.qtc_chain.proofs.all_state.AllState.new.Given as goal

abbrev pub invariant-loop : goal.invariant-loop
invariant-loop g l = (l.values.items ≡ replicate l.counter None) × (l.n ≤ vec_capacity l.values)

use Rattle.std.proofs.Common.{◌≡◌, ◌+◌, ◌≤◌, ◌++◌, length, vec_capacity}
use Rattle.qtc_kernel.specs.EngineParts.{desks_with}
use Rattle.qtc_kernel.proofs.desk.desks_of.Given as goal

-- the desks so far, and those of what is left, are those of all
abbrev pub invariant-loop-desks : goal.invariant-loop-desks
invariant-loop-desks g l = record {
  all : l.desks.items ++ desks_with l.seats.items l.passes.items l.badges.items l.functions.items ≡ desks_with l.fn.seats.items l.fn.passes.items l.fn.badges.items l.fn.functions.items;
  seats : length l.seats.items ≡ length l.functions.items;
  passes : length l.passes.items ≡ length l.functions.items;
  badges : length l.badges.items ≡ length l.functions.items;
  room : length l.desks.items + length l.functions.items ≤ vec_capacity l.desks;
}

abbrev pub decreases-loop-desks : goal.decreases-loop-desks
decreases-loop-desks g l = length l.functions.items

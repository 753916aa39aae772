use Rattle.std.proofs.Common.{◌≡◌, true}
use Rattle.qtc_kernel.specs.EngineParts.{IsDesk}
use Rattle.qtc_kernel.specs.WorkedOut.{Continues}
use Rattle.qtc_kernel.proofs.engine.Engine.work.Given as goal

-- each turn so far did a block
abbrev pub invariant-loop : goal.invariant-loop
invariant-loop g l = record {
  can : (goal.iterator-loop g).can_next l.iterator';
  finite : (goal.iterator-loop g).is_finite l.iterator';
  desk : IsDesk g.F.ItemFn.value g.F.ItemFn.called l.self l.desk;
  is_in : l.desk.badge.is_in ≡ true;
  number : l.desk.pass.number ≡ l.fn.desk.pass.number;
  function : Continues g.F.ItemFn.value g.F.ItemFn.called l.fn.desk.function l.desk.function;
  wants_memory : l.desk.wants_memory ≡ l.fn.desk.wants_memory;
}

use Rattle.std.proofs.Common.{◌≡◌, All, length}
use Rattle.std.specs.List.{AllWithin}
use Rattle.qtc_shared.specs.Journals.{calls_by}
use Rattle.qtc_kernel.specs.EngineParts.{IsDesk}
use Rattle.qtc_kernel.specs.Endings.{IsMet, functions_at, wants_at}
use Rattle.qtc_kernel.specs.Turns.{GoesOn}
use Rattle.qtc_kernel.proofs.engine.Engine.meet_each.Given as goal

abbrev pub invariant-loop-at : goal.invariant-loop-at
invariant-loop-at g l = record {
  on : GoesOn l.fn.pass l.pass;
  own : calls_by l.pass.number l.pass.known ≡ calls_by l.fn.pass.number l.fn.pass.known;
  count : length l.desks.items ≡ length l.fn.desks.items;
  functions : functions_at l.desks.items ≡ functions_at l.fn.desks.items;
  wants_memory : wants_at l.desks.items ≡ wants_at l.fn.desks.items;
  desks : All (IsDesk g.F.ItemFn.value g.F.ItemFn.called l.self) l.desks.items;
  met : AllWithin (IsMet l.pass.known) l.desks.items 0 l.at;
  end : l.at-end ≡ length l.desks.items;
}

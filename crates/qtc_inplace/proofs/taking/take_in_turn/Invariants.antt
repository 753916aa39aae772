use Rattle.std.proofs.Common.{◌≡◌, ◌++◌, take}
use Rattle.std.specs.List.{range_with_len}
use Rattle.qtc_inplace.specs.Inside.{taken_of}
use Rattle.qtc_inplace.specs.Lists.{NoneBad}
use Rattle.qtc_inplace.proofs.taking.take_in_turn.Given as goal

abbrev pub invariant-loop-offset : goal.invariant-loop-offset
invariant-loop-offset g l =
    let value = g.F.ItemFn.value l.fn.function in
    record {
      taken : l.taken.items ≡ taken_of g.T.Taking.taken value (take l.offset l.members);
      good : NoneBad value (take l.offset l.members);
      called : g.F.ItemFn.called l.function ≡ g.F.ItemFn.called l.fn.function ++ range_with_len l.first l.offset;
      stays : g.F.ItemFn.value l.function ≡ value;
    }

use Rattle.std.proofs.Common.{◌≡◌, ◌≤◌, drop, length, take}
use Rattle.rayon.specs.Lists.{filter_by_mask}
use Rattle.qtc_inplace.proofs.in_place.keep.Given as goal

abbrev pub invariant-loop-index : goal.invariant-loop-index
invariant-loop-index l = record {
  few : l.kept ≤ l.index;
  len : length l.list.items ≡ length l.fn.list.items;
  front : take l.kept l.list.items ≡ filter_by_mask (take l.index l.fn.list.items) (take l.index l.verdicts);
  back : drop l.index l.list.items ≡ drop l.index l.fn.list.items;
}

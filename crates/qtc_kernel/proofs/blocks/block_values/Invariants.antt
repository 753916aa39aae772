use Rattle.std.proofs.Common.{◌≡◌, ◌<◌, ◌≤◌, ◌++◌, ℕ, false}
use Rattle.qtc_kernel.specs.Workload.{indexes_of, is_bad, item_at, texts_in, workload}
use Rattle.qtc_kernel.proofs.blocks.block_values.Given as goal

abbrev pub invariant-loop-index : goal.invariant-loop-index
invariant-loop-index g l =
    let item_fn = g.F.ItemFn in
    let work = workload l.items (item_fn.value l.fn.function) in
    record {
      kept : l.values.items ≡ texts_in work (l.fn.block.begin, l.index);
      good : (i : ℕ) → l.fn.block.begin ≤ i → i < l.index → is_bad (work.value (item_at work i)) ≡ false;
      called : item_fn.called l.function ≡ item_fn.called l.fn.function ++ indexes_of (l.fn.block.begin, l.index);
      stays : item_fn.value l.function ≡ item_fn.value l.fn.function;
    }

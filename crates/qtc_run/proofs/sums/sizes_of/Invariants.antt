use Rattle.std.proofs.Common.{◌≡◌, ◌+◌, ◌≤◌, ◌<◌, ℕ, length, take}
use Rattle.qtc_base.specs.Items.{total_bytes, PassesLimit}
use Rattle.qtc_run.specs.Sources.{items_of_all}
use Rattle.qtc_run.proofs.sums.sizes_of.Given as goal

abbrev pub invariant-loop-place : goal.invariant-loop-place
invariant-loop-place l = record {
  sizes : length l.sizes.items ≡ l.place;
  number : l.items ≡ length (items_of_all l.loaded (take l.place l.jobs));
  size : l.bytes ≡ total_bytes (items_of_all l.loaded (take l.place l.jobs));
  few_items : l.items ≤ 8388608;
  few_bytes : l.bytes ≤ 536870912;
  first : (earlier : ℕ) → earlier < l.place → PassesLimit (items_of_all l.loaded (take (earlier + 1) l.jobs)) → ⊥;
}

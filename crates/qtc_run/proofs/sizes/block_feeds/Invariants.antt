use Rattle.std.proofs.Common.{◌≡◌, ◌≤◌, eqb, take}
use Rattle.std.specs.List.{count_by}
use Rattle.qtc_run.proofs.sizes.block_feeds.Given as goal

abbrev pub invariant-loop-byte : goal.invariant-loop-byte
invariant-loop-byte l = record {
  count : l.count ≡ count_by (λ byte. eqb byte 10) (take l.byte-index l.block);
  few : l.count ≤ l.byte-index;
}

use Rattle.std.proofs.Common.{◌≡◌, ◌≤◌, ◌*◌, map, take}
use Rattle.qtc_base.specs.Items.{total_bytes}
use Rattle.qtc_run.specs.Sources.{text_of}
use Rattle.qtc_run.proofs.sizes.file_size.Given as goal

abbrev pub invariant-loop-name : goal.invariant-loop-name
invariant-loop-name l = record {
  bytes : l.bytes ≡ total_bytes (map (text_of l.loaded) (take l.name-index l.names));
  few : l.bytes ≤ l.name-index * 67108864;
}

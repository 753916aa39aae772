use Rattle.std.proofs.Common.{◌≡◌, ◌++◌, drop, map}
use Rattle.qtc_run.specs.Sources.{text_of}
use Rattle.qtc_run.proofs.sources.file_items.Given as goal

abbrev pub invariant-loop-name : goal.invariant-loop-name
invariant-loop-name l = map (text_of l.loaded) l.names ≡ l.items ++ map (text_of l.loaded) (drop l.name-index l.names)

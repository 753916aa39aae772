use Rattle.std.proofs.Common.{◌≡◌, ◌++◌, drop}
use Rattle.std.specs.List.{flat_map}
use Rattle.qtc_run.specs.ReportTexts.{placed_line}
use Rattle.qtc_run.proofs.report_texts.append_partial.Given as goal

abbrev pub invariant-loop-placed : goal.invariant-loop-placed
invariant-loop-placed l = l.fn.into ++ flat_map placed_line l.partial ≡ l.into ++ flat_map placed_line (drop l.placed-index l.partial)

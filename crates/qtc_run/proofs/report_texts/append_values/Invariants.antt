use Rattle.std.proofs.Common.{◌≡◌, ◌++◌, drop}
use Rattle.std.specs.List.{flat_map}
use Rattle.qtc_run.specs.ReportTexts.{value_line}
use Rattle.qtc_run.proofs.report_texts.append_values.Given as goal

abbrev pub invariant-loop-value : goal.invariant-loop-value
invariant-loop-value l = l.fn.into ++ flat_map value_line l.values ≡ l.into ++ flat_map value_line (drop l.value-index l.values)

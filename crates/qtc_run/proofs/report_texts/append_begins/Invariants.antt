use Rattle.std.proofs.Common.{◌≡◌, ◌++◌, drop}
use Rattle.std.specs.List.{flat_map}
use Rattle.qtc_run.specs.ReportTexts.{begin_word}
use Rattle.qtc_run.proofs.report_texts.append_begins.Given as goal

abbrev pub invariant-loop-begin : goal.invariant-loop-begin
invariant-loop-begin l = l.fn.into ++ flat_map begin_word l.begins ≡ l.into ++ flat_map begin_word (drop l.begin-index l.begins)

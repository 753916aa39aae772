use Rattle.std.proofs.Common.{◌≡◌, ◌++◌}
use Rattle.std.specs.List.{flat_map, zip}
use Rattle.std.specs.Iterator.Adapters.{zip_first, zip_second}
use Rattle.std.specs.Slice.Iter.{iter_rest}
use Rattle.qtc_run.specs.ReportTexts.{report_text}
use Rattle.qtc_run.proofs.ReportLemmas.{pair_text}
use Rattle.qtc_run.proofs.report_texts.report_text.Given as goal

abbrev pub invariant-loop-job : goal.invariant-loop-job
invariant-loop-job l = report_text l.file l.report ≡ l.text ++ flat_map pair_text (zip (iter_rest (zip_first l.job-iterator)) (iter_rest (zip_second l.job-iterator)))

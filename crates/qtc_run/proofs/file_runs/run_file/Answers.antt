use Rattle.std.proofs.Common.{List, subst, sym}
use Rattle.qtc_base.specs.Items.{PassesLimit}
use Rattle.qtc_job_file.specs.declared.jobs.Job.{Job}
use Rattle.qtc_run.specs.Outputs.{AreReports, IsReportIn}
use Rattle.qtc_run.specs.Pairing.{EachPair}
use Rattle.qtc_run.specs.Rounds.{IsReportFor}
use Rattle.qtc_run.specs.Sources.{items_of_all, outcomes_of}
use Rattle.qtc_run.specs.Sums.{CanCount}
use Rattle.qtc_run.specs.declared.rounds.RoundJob.{RoundJob}
use Rattle.qtc_run.proofs.ReportLemmas.{pairs-number, reports-of}
use Rattle.qtc_run.proofs.TextRuns.{run-items}
use Rattle.qtc_run.proofs.file_runs.run_file.Goals as goal

pub sizes_of-requires-clause-countable : goal.sizes_of-requires-clause-countable
sizes_of-requires-clause-countable g c =
    let bounded = c.lawful_files_are_bounded.ensures c.args.file.now c.requires.lawful in
    subst (CanCount c.args.loaded.now) (sym c.as_slice.ensures) (record { few = bounded.few; named = c.requires.loaded; sized = bounded.inputs })

pub sources_of-requires-clause-bounded : goal.sources_of-requires-clause-bounded
sources_of-requires-clause-bounded g c = c.lawful_files_are_bounded.ensures c.args.file.now c.requires.lawful

pub returns-clause-reports : goal.returns-clause-reports
returns-clause-reports g c =
    reports-of c.args.loaded.now c.args.file.now.jobs c.in_ok-sources.sources.items c.in_ok-report.report.jobs c.requires.runnable c.in_ok-sources.ensures.sources
    (subst (λ (sources : List RoundJob). EachPair IsReportFor sources c.in_ok-report.report.jobs) c.deref-2.ensures.value c.in_ok-report.ensures.reports)

pub returns-clause-number : goal.returns-clause-number
returns-clause-number g c =
    let are : AreReports c.args.loaded.now c.args.file.now.jobs c.in_ok-report.report.jobs = reports-of c.args.loaded.now c.args.file.now.jobs c.in_ok-sources.sources.items c.in_ok-report.report.jobs c.requires.runnable c.in_ok-sources.ensures.sources
    (subst (λ (sources : List RoundJob). EachPair IsReportFor sources c.in_ok-report.report.jobs) c.deref-2.ensures.value c.in_ok-report.ensures.reports) in
    pairs-number (IsReportIn c.args.loaded.now c.args.file.now.jobs c.in_ok-report.report.jobs) c.args.file.now.jobs c.in_ok-report.report.jobs are

pub returns-clause-fits : goal.returns-clause-fits
returns-clause-fits g c = λ passes.
    let fits = subst (λ (jobs : List Job). PassesLimit (items_of_all c.args.loaded.now jobs) → ⊥) c.as_slice.ensures c.in_ok-sizes.ensures.fits in
    fits (subst PassesLimit (run-items c.args.loaded.now c.args.file.now.jobs (outcomes_of c.in_ok-report.report.jobs) c.requires.runnable) passes)

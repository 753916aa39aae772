use Rattle.std.proofs.Common.{◌≡◌, ◌≤◌, true, List, length, refl, sym, subst, arith}
use Rattle.std.specs.Prelude.{All}
use Rattle.qtc_base.specs.Items.{PassesLimit}
use Rattle.qtc_job_file.specs.Lawful.{AreBlocks}
use Rattle.qtc_job_file.specs.declared.jobs.Job.{Job}
use Rattle.qtc_run.specs.Loaded.{HasAll}
use Rattle.qtc_run.specs.Rounds.{IsReady, IsSourceOf}
use Rattle.qtc_run.specs.Runnable.{are_runnable}
use Rattle.qtc_run.specs.Sources.{items_of_all, names_of_all}
use Rattle.qtc_run.proofs.ReportLemmas.{pairs-next}
use Rattle.qtc_run.proofs.Rows.{all-at, all-push}
use Rattle.qtc_run.proofs.SumLemmas.{block-sizes, named-at, fits-at}
use Rattle.qtc_run.proofs.Worked.{few-items, runnable-at}
use Rattle.qtc_run.proofs.file_runs.sources_of.Goals as goal

pub items_from-requires-clause-named : goal.items_from-requires-clause-named
items_from-requires-clause-named c =
    let all = subst (λ (jobs : List Job). HasAll c.args.loaded.now (names_of_all jobs)) (sym c.as_slice-jobs.ensures) c.requires.loaded in
    named-at c.args.loaded.now c.as_slice-jobs.result.now c.loop-place.place c.index-jobs-place.result all c.loop-place-test.true c.index-jobs-place.is

pub items_from-requires-clause-fits : goal.items_from-requires-clause-fits
items_from-requires-clause-fits c =
    let fits = subst (λ (jobs : List Job). PassesLimit (items_of_all c.args.loaded.now jobs) → ⊥) (sym c.as_slice-jobs.ensures) c.requires.fits in
    fits-at c.args.loaded.now c.as_slice-jobs.result.now c.loop-place.place c.index-jobs-place.result fits c.loop-place-test.true c.index-jobs-place.is

pub loop-place-preserved : goal.loop-place-preserved
loop-place-preserved c =
    let jobs : List Job = c.as_slice-jobs.result.now in
    let job : Job = c.index-jobs-place.result in
    let fits = subst (λ (jobs : List Job). PassesLimit (items_of_all c.args.loaded.now jobs) → ⊥) (sym c.as_slice-jobs.ensures) c.requires.fits in
    let few : length jobs ≤ 64 = subst (λ (jobs : List Job). length jobs ≤ 64) (sym c.as_slice-jobs.ensures) c.requires.bounded.few in
    let blocks = subst (λ (jobs : List Job). All (λ (job : Job). AreBlocks job.blocks) jobs) (sym c.as_slice-jobs.ensures) c.requires.bounded.blocks in
    let runnable = subst (λ (jobs : List Job). are_runnable jobs ≡ true) (sym c.as_slice-jobs.ensures) c.requires.runnable in
    let within = c.loop-place-test.true in
    let is = c.index-jobs-place.is in
    record {
      sources = pairs-next (IsSourceOf c.args.loaded.now) jobs c.loop-place.sources.items c.push.new.self.items c.loop-place.place job _ within is c.in_ok-push.ensures.items c.loop-place.invariant.sources (record { job_is = refl; items_are = c.in_ok-items_from.ensures });
      ready = subst (All IsReady) (sym c.in_ok-push.ensures.items) (all-push IsReady c.loop-place.sources.items _ c.loop-place.invariant.ready (record {
        place = omega (arith, within, few);
        runnable = runnable-at jobs c.loop-place.place job runnable within is;
        blocks = block-sizes job.blocks (all-at (λ (job : Job). AreBlocks job.blocks) jobs c.loop-place.place job blocks within is);
        few = few-items _ (λ passes. fits-at c.args.loaded.now jobs c.loop-place.place job fits within is (subst PassesLimit c.in_ok-items_from.ensures passes));
      }));
    }

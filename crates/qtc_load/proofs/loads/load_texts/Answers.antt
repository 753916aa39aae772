use Rattle.qtc_load.proofs.Texts.{jobs-next, jobs-stop, jobs-loaded, jobs-have}
use Rattle.qtc_load.proofs.loads.load_texts.Goals as goal

pub loop-job-preserved : goal.loop-job-preserved
loop-job-preserved g c =
    let items = c.as_slice-job-items.ensures in
    jobs-next c.args.file.now.jobs c.loop-job.job-index c.job-item.result _ _ _ _ _ _ (rw items at c.loop-job-test.true) (rw items at c.job-item.is) c.loop-job.invariant (rw c.texts_named.ensures at c.in-Ok.ensures.ok)

pub returns-in-Err-clause-err : goal.returns-in-Err-clause-err
returns-in-Err-clause-err g c =
    let items = c.as_slice-job-items.ensures in
    jobs-stop c.args.file.now.jobs c.loop-job.job-index c.job-item.result _ _ _ _ _ (rw items at c.loop-job-test.true) (rw items at c.job-item.is) c.loop-job.invariant (rw c.texts_named.ensures at c.in-Err.ensures.err)

pub returns-clause-ok : goal.returns-clause-ok
returns-clause-ok g c =
    jobs-loaded c.args.file.now.jobs c.loop-job.job-index _ _ _ (rw c.as_slice-job-items.ensures at c.loop-job-test.false) c.loop-job.invariant

pub returns-clause-all : goal.returns-clause-all
returns-clause-all g c =
    jobs-have c.args.file.now.jobs c.loop-job.job-index _ _ _ (rw c.as_slice-job-items.ensures at c.loop-job-test.false) c.loop-job.invariant

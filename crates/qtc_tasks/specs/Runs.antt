-- Jobs of tasks, and how they end. (After QtConcurrent::run with a QPromise; own.)
use Rattle.std.specs.Prelude.{◌≡◌, ◌<◌, ℕ, Bool, false, List}
use Rattle.qtc_future.specs.Steps.{Effect}
use Rattle.qtc_future.specs.declared.requests.Request.TheVariants.{Finish}
use Rattle.qtc_shared.specs.Passes.{FutureId, PassState, IsHold, Makes}
use Rattle.qtc_tasks.specs.TaskJournals.{HasTaskJournal}
use Rattle.qtc_tasks.specs.Tasks.{TaskState}
use Rattle.qtc_tasks.specs.Turns.{IsDone}
use Rattle.qtc_tasks.specs.declared.ends.TaskEnd.{TaskEnd}
use Rattle.qtc_tasks.specs.declared.ends.TaskJob.{TaskJob}

module _ {V T : Type 0} where
  -- the job's pass is a maker's of this future, which is in plain mode
  pub record MayRun (future : FutureId) (job : TaskJob V T) : Type 0 where
    pub of : job.pass.of ≡ future
    pub maker : job.pass.number < future.terms.makers
    pub plain : future.terms.filter ≡ false

  -- how a job ended: the calls that it made, in order, of which a finish is the last in every case, and what of these
  -- stands in the journal that its pass then knows
  pub record IsJobEnd (state : T → TaskState V) (job : TaskJob V T) (end : TaskEnd V T) : Type 0 where
    pub worked : PassState V
    pub done : IsDone job.task (state job.task) job.pass worked end.came end.stop
    pub effect : Bool
    pub finish : IsHold worked end.pass (Makes worked Finish (Effect effect))
    pub journal : HasTaskJournal (state job.task) job.pass end.pass end.came end.stop

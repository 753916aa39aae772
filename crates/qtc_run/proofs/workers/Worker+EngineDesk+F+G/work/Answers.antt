use Rattle.std.proofs.Common.{◌∙◌}
use Rattle.qtc_run.proofs.Seating.{set-here}
use Rattle.qtc_run.proofs.workers.Worker+EngineDesk+F+G.work.Goals.{in-Some, in_default}
use Rattle.qtc_run.proofs.workers.Worker+EngineDesk+F+G.work.Goals as goal

pub returns : goal.returns
returns g c = elim c.match-get_mut.branch [
  | in-Some w ↦
      let value = rw w.in-Some.is at c.get_mut.ensures.value in
      rw w.self-inside-is (set-here c.self.inside.desks.items c.job.result w.work.new.self (w.work.ensures ∙ rw w.work.ensures value) ∙ c.self.view_is)
  | in_default w ↦ rw w.self-inside-is c.self.view_is
]

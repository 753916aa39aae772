use Rattle.std.proofs.Common.{◌≡◌, Some, sym, ◌∙◌, ap, subst}
use Rattle.qtc_pool_core.specs.declared.task.Task.{Task}
use Rattle.qtc_pool_core.specs.Core.{without, work_of}
use Rattle.qtc_pool_core.specs.Slots.{tasks_in}
use Rattle.qtc_pool_core.proofs.Taken.{found_task, works_none}
use Rattle.qtc_pool_core.proofs.Heads.{one_task}
use Rattle.qtc_pool_core.proofs.queue.Queue.take.Goals as goal

pub returns-in_default-clause-work : goal.returns-in_default-clause-work
returns-in_default-clause-work g c =
    sym (works_none c.args.id c.args.self.now.slots (sym c.place.ensures ∙ c.in_default.is))

pub take_out-requires : goal.take_out-requires
take_out-requires g c =
    let f = found_task c.args.id c.in-Some.place c.args.self.now.slots (sym c.place.ensures ∙ c.in-Some.is) in
    (f.0, f.1)

pub returns-clause-work : goal.returns-clause-work
returns-clause-work g c =
    let f = found_task c.args.id c.in-Some.place c.args.self.now.slots (sym c.place.ensures ∙ c.in-Some.is) in
    let same = one_task c.args.self.now.slots c.in-Some.place f.0 c.take_out.result f.1 c.take_out.ensures.task in
    let named : c.take_out.result.id ≡ c.args.id = ap (λ (task : Task g.row.K.Denot). task.id) (sym same) ∙ f.2 in
    sym (subst (λ id. work_of id (tasks_in c.args.self.now.slots) ≡ Some c.take_out.result.work) named c.take_out.ensures.work)

pub returns-clause-rest : goal.returns-clause-rest
returns-clause-rest g c =
    let f = found_task c.args.id c.in-Some.place c.args.self.now.slots (sym c.place.ensures ∙ c.in-Some.is) in
    let same = one_task c.args.self.now.slots c.in-Some.place f.0 c.take_out.result f.1 c.take_out.ensures.task in
    let named : c.take_out.result.id ≡ c.args.id = ap (λ (task : Task g.row.K.Denot). task.id) (sym same) ∙ f.2 in
    subst (λ id. tasks_in c.take_out.new.self.slots ≡ without id (tasks_in c.args.self.now.slots)) named c.take_out.ensures.rest

use Rattle.std.proofs.Common.{nat_eq, ◌≡◌, Some, set, IsSome, subst, sym, ◌∙◌, ap, arith, refl}
use Rattle.qtc_pool_core.specs.Slots.{Row, HasTask, tasks_in}
use Rattle.qtc_pool_core.specs.Inside.{row_of}
use Rattle.std.specs.HashMap.{get}
use Rattle.qtc_pool_core.proofs.Taken.{filled_in, fewer-set, had_task, has_within, read_task, tasks-set, works}
use Rattle.qtc_pool_core.specs.Core.{without, work_of}
use Rattle.qtc_pool_core.proofs.Ranks.{laid-set}
use Rattle.qtc_pool_core.proofs.queue.Queue.take_out.Goals as goal

pub index_mut-requires : goal.index_mut-requires
index_mut-requires g c =
    let filled = filled_in (row_of c.self.inside.slots) c.args.self.now c.args.place c.self.view_is c.requires in
    let within = has_within c.self.inside.slots.items c.args.place filled.0 filled.1 in
    omega (arith, within, c.self.inside.slots.ok.0)

pub unwrap-task-requires : goal.unwrap-task-requires
unwrap-task-requires g c =
    let filled = filled_in (row_of c.self.inside.slots) c.args.self.now c.args.place c.self.view_is c.requires in
    let is = read_task c.self.inside.slots.items c.args.place filled.0 c.index_mut.result.now c.take.result filled.1 c.index_mut.ensures.value c.take.ensures.value in
    subst IsSome (sym is) refl

pub overflow_sub-self : goal.overflow_sub-self
overflow_sub-self g c =
    let filled = filled_in (row_of c.self.inside.slots) c.args.self.now c.args.place c.self.view_is c.requires in
    let fewer = fewer-set c.self.inside.slots.items c.args.place filled.0 filled.1 in
    omega (arith, fewer, c.self.invariant.laid.counted)

pub invariant_of-self : goal.invariant_of-self
invariant_of-self g c =
    let slots = c.self.inside.slots.items in
    let place = c.args.place in
    let task = c.unwrap-task.result in
    let inv = c.self.invariant in
    let filled = filled_in (row_of c.self.inside.slots) c.args.self.now place c.self.view_is c.requires in
    let h = had_task slots place c.index_mut.result.now c.take.result task filled c.index_mut.ensures.value c.take.ensures.value c.unwrap-task.ensures in
    record {
      laid = laid-set slots (get nat_eq c.self.inside.places) (get nat_eq c.remove.new.self) _ c.self.inside.count place task c.take.new.self inv.laid h c.take.ensures.after c.remove.ensures.updates.0;
      heaped = inv.heaped;
      few_ranks = inv.few_ranks;
      ranks_fit = inv.ranks_fit;
      places_fit = omega (arith, inv.places_fit, c.remove.ensures.spare);
    }

pub returns-clause-task : goal.returns-clause-task
returns-clause-task g c =
    let place = c.args.place in
    let filled = filled_in (row_of c.self.inside.slots) c.args.self.now place c.self.view_is c.requires in
    let h = had_task c.self.inside.slots.items place c.index_mut.result.now c.take.result c.unwrap-task.result filled c.index_mut.ensures.value c.take.ensures.value c.unwrap-task.ensures in
    subst (λ (row : Row g.row.K.Denot). HasTask row.slots place c.unwrap-task.result) c.self.view_is h

pub returns-clause-rest : goal.returns-clause-rest
returns-clause-rest g c =
    let slots = c.self.inside.slots.items in
    let place = c.args.place in
    let task = c.unwrap-task.result in
    let filled = filled_in (row_of c.self.inside.slots) c.args.self.now place c.self.view_is c.requires in
    let h = had_task slots place c.index_mut.result.now c.take.result task filled c.index_mut.ensures.value c.take.ensures.value c.unwrap-task.ensures in
    let fewer = ap (λ slot. tasks_in (set slots place slot)) c.take.ensures.after ∙ tasks-set slots place task h (c.self.invariant.laid.once task.id) in
    fewer ∙ ap (λ (row : Row g.row.K.Denot). without task.id (tasks_in row.slots)) c.self.view_is

pub returns-clause-work : goal.returns-clause-work
returns-clause-work g c =
    let slots = c.self.inside.slots.items in
    let place = c.args.place in
    let task = c.unwrap-task.result in
    let filled = filled_in (row_of c.self.inside.slots) c.args.self.now place c.self.view_is c.requires in
    let h = had_task slots place c.index_mut.result.now c.take.result task filled c.index_mut.ensures.value c.take.ensures.value c.unwrap-task.ensures in
    let P : Row g.row.K.Denot → Type 0 = λ row. work_of task.id (tasks_in row.slots) ≡ Some task.work in
    subst P c.self.view_is (works slots place task h (c.self.invariant.laid.once task.id))

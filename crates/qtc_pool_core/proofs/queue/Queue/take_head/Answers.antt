use Rattle.std.proofs.Common.{Some, sym, ◌∙◌, ap, subst}
use Rattle.qtc_pool_core.specs.Core.{ticket_of}
use Rattle.qtc_pool_core.specs.Slots.{HasTask, IsFilled, Row}
use Rattle.qtc_pool_core.specs.declared.task.Task.{Task}
use Rattle.qtc_pool_core.proofs.Heads.{head_found, one_task}
use Rattle.qtc_pool_core.proofs.queue.Queue.take_head.Goals as goal

pub take_out-requires : goal.take_out-requires
take_out-requires g c =
    let head = c.in_ok-place.ensures.head in
    let P : Row g.row.K.Denot → Type 0 = λ row. IsFilled row.slots c.in_ok-place.place in
    subst P (sym c.in_ok-place.ensures.same) (head.task, head.here)

pub returns-clause-head : goal.returns-clause-head
returns-clause-head g c =
    let head = c.in_ok-place.ensures.head in
    let P : Row g.row.K.Denot → Type 0 = λ row. HasTask row.slots c.in_ok-place.place c.take_out.result in
    let here = subst P c.in_ok-place.ensures.same c.take_out.ensures.task in
    let same = one_task c.args.self.now.slots c.in_ok-place.place head.task c.take_out.result head.here here in
    ap (λ (task : Task g.row.K.Denot). Some (ticket_of task)) (sym same) ∙ sym (head_found c.args.self.now.slots c.in_ok-place.place head)

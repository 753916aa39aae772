use Rattle.std.proofs.Common.{◌++◌, ◌∷◌, [], Option, ◌∙◌, ap, sym, arith, length, take, length-append, append-nil, vec_capacity, Vec, Global}
use Rattle.qtc_pool_core.specs.declared.entries.PoolEntry.{PoolEntry}
use Rattle.qtc_pool_core.specs.declared.task.Task.{Task}
use Rattle.qtc_pool_core.specs.Slots.{tasks_in}
use Rattle.qtc_pool_core.specs.Steps.{taken_back}
use Rattle.qtc_pool_core.proofs.Cleared.{back_more, room_more}
use Rattle.qtc_pool_core.proofs.pool_core.take_back.Goals as goal
use Rattle.qtc_pool_core.proofs.pool_core.take_back.Goals.{in-Some, in_default}

pub push_reserved-requires : goal.push_reserved-requires
push_reserved-requires g c =
    let slots = c.args.slots.now in
    let i = c.loop-slot.slot-index in
    let room = room_more slots i c.slot-item.result c.in-Some.task (omega arith) c.slot-item.is c.in-Some.is in
    let so_far = ap length c.loop-slot.invariant.items ∙ length-append c.args.journal.now.items (taken_back (tasks_in (take i slots))) in
    omega (arith, room, so_far, c.requires, c.loop-slot.invariant.capacity, c.loop-slot.journal.ok.0, c.args.journal.now.ok.0)

pub loop-slot-preserved : goal.loop-slot-preserved
loop-slot-preserved g c =
    let slots = c.args.slots.now in
    let i = c.loop-slot.slot-index in
    let more = back_more c.args.journal.now.items c.loop-slot.journal.items c.match-slot.journal.items slots i c.slot-item.result (omega arith) c.slot-item.is c.loop-slot.invariant.items in
    let back = λ (slot : Option (Task g.row.K.Denot)). c.loop-slot.journal.items ++ taken_back (tasks_in (slot ∷ [])) in
    elim c.match-slot.branch [
      | in-Some w ↦ record {
        items = more (ap (λ (v : Vec PoolEntry Global). v.items) w.journal-is ∙ w.push_reserved.ensures.items ∙ ap back (sym w.in-Some.is));
        capacity = ap (λ (v : Vec PoolEntry Global). vec_capacity v) w.journal-is ∙ w.push_reserved.ensures.capacity ∙ c.loop-slot.invariant.capacity;
      }
      | in_default w ↦ record {
        items = more (ap (λ (v : Vec PoolEntry Global). v.items) w.journal-is ∙ sym (append-nil c.loop-slot.journal.items) ∙ ap back (sym w.in_default.is));
        capacity = ap (λ (v : Vec PoolEntry Global). vec_capacity v) w.journal-is ∙ c.loop-slot.invariant.capacity;
      }
    ]

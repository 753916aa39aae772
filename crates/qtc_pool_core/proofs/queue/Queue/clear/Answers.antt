use Rattle.std.proofs.Common.{◌≡◌, ℕ, List, Option, None, length, sym, ◌∙◌, ap, subst, arith, nat_eq}
use Rattle.std.specs.BinaryHeap.{heap_items}
use Rattle.std.specs.HashMap.{get}
use Rattle.std.specs.Map.{lookup}
use Rattle.std.proofs.lemmas.List.{with_items_is}
use Rattle.qtc_pool_core.specs.declared.task.Task.{Task}
use Rattle.qtc_pool_core.specs.Slots.{tasks_in}
use Rattle.qtc_pool_core.specs.Inside.{AreLaid}
use Rattle.qtc_pool_core.proofs.Emptied.{laid-empty, no_tasks}
use Rattle.qtc_pool_core.proofs.queue.Queue.clear.Goals as goal

pub invariant_of-self : goal.invariant_of-self
invariant_of-self g c =
    let inv = c.self.invariant in
    let slots = c.empty_all.new.slots in
    let is = with_items_is c.self.inside.slots slots (omega (arith, c.empty_all.auto.slots, ap length c.as_mut_slice.ensures.value, c.self.inside.slots.ok.0)) in
    let none : (id : ℕ) → get nat_eq c.clear.new.self id ≡ None = λ id. ap (lookup (nat_eq id)) c.clear.ensures.empty in
    let laid = laid-empty slots (get nat_eq c.clear.new.self) c.empty_all.ensures none in
    record {
      laid = subst (λ (xs : List (Option (Task g.row.K.Denot))). AreLaid xs (get nat_eq c.clear.new.self) (heap_items c.clear-2.new.self) 0) (sym is) (rw c.clear-2.ensures.items laid);
      heaped = c.clear-2.ensures.heap_order;
      few_ranks = omega (arith, c.clear-2.ensures.len);
      ranks_fit = omega (arith, inv.ranks_fit, c.clear-2.ensures.capacity);
      places_fit = omega (arith, inv.places_fit, c.clear.ensures.capacity);
    }

pub returns-clause-tasks : goal.returns-clause-tasks
returns-clause-tasks g c =
    let slots = c.empty_all.new.slots in
    let is = with_items_is c.self.inside.slots slots (omega (arith, c.empty_all.auto.slots, ap length c.as_mut_slice.ensures.value, c.self.inside.slots.ok.0)) in
    ap tasks_in is ∙ no_tasks slots c.empty_all.ensures

use Rattle.std.proofs.Common.{◌∙◌, arith, nat_eq, rules}
use Rattle.std.proofs.lemmas.Int.{to_z-of_z}
use mir.Val.{SFits}
use mir.Syntax.{w32}
use Rattle.std.specs.BinaryHeap.{heap_items}
use Rattle.std.specs.HashMap.{get}
use Rattle.qtc_pool_core.proofs.Places.{no_place}
use Rattle.qtc_pool_core.proofs.Taken.{few_tasks}
use Rattle.qtc_pool_core.proofs.Ranks.{laid-push}
use Rattle.qtc_pool_core.proofs.queue.Queue.push.Goals as goal

pub overflow_add-self : goal.overflow_add-self
overflow_add-self g c =
    omega (arith, few_tasks c.self.inside.slots.items, c.self.invariant.laid.counted, c.self.inside.slots.ok, c.self.inside.slots.small)

pub invariant_of-self : goal.invariant_of-self
invariant_of-self g c =
    let inv = c.self.invariant in
    let slots = c.self.inside.slots.items in
    let updates = rw c.unwrap-before.ensures at c.insert-placed.ensures.updates in
    let fits : SFits w32 c.args.task.priority = search rules in
    let same = rw (to_z-of_z w32 c.args.task.priority fits) at (rw c.unwrap.ensures at c.push-ranked.ensures.permutation) in
    let heap = rw c.unwrap.ensures at c.push-ranked.ensures.heap_order in
    let len = rw c.unwrap.ensures at c.push-ranked.ensures.len in
    let new = rw (← c.self.view_is) at c.requires.new in
    let end = c.len-place.ensures ∙ c.self.inside.slots.ok.0 in
    let none = inv.laid.placed c.args.task.id ∙ no_place c.args.task.id slots new in
    let laid = laid-push slots (get nat_eq c.self.inside.places) (get nat_eq c.insert-placed.new.self) (heap_items c.self.inside.ranks) (heap_items c.push-ranked.new.self) c.self.inside.count c.len-place.result c.args.task inv.laid none end updates.0 same in
    record {
      laid = rw c.push_reserved.ensures.items laid;
      heaped = heap inv.heaped;
      few_ranks = omega (arith, len, inv.few_ranks, c.push_reserved.ensures.len);
      ranks_fit = omega (arith, inv.ranks_fit, c.push-ranked.ensures.capacity, c.push_reserved.ensures.capacity);
      places_fit = omega (arith, inv.places_fit, c.insert-placed.ensures.spare, c.push_reserved.ensures.len, c.push_reserved.ensures.capacity);
    }

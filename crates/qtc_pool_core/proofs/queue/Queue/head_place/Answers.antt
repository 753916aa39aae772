use Rattle.std.proofs.Common.{◌≡◌, ℕ, sym, ◌∙◌, ap, subst, arith}
use Rattle.std.specs.BinaryHeap.{heap_items}
use Rattle.std.specs.HashMap.{get}
use Rattle.std.specs.Bool.{nat_eq}
use Rattle.qtc_pool_core.specs.Slots.{IsFilled, IsHeadAt, Row}
use Rattle.qtc_pool_core.proofs.Taken.{filled_read, unfilled_read}
use Rattle.qtc_pool_core.proofs.Tops.{laid-drop, none_ranked, top_heads, top_within}
use Rattle.qtc_pool_core.proofs.queue.Queue.head_place.Goals as goal

pub loop-place-init : goal.loop-place-init
loop-place-init g c = (c.self.view_is, c.self.invariant)

pub index-requires : goal.index-requires
index-requires g c =
    let top = c.in-Some.ensures in
    let slots = c.loop-place.self-inside.slots in
    let within = top_within slots.items (get nat_eq c.loop-place.self-inside.places) (heap_items c.loop-place.self-inside.ranks) c.loop-place.self-inside.count top.0 c.loop-place.invariant.1.laid top.2.first in
    omega (arith, within, top.1, slots.ok.0)

pub returns-then-is_some-clause-same : goal.returns-then-is_some-clause-same
returns-then-is_some-clause-same g c = c.loop-place.invariant.0

pub returns-then-is_some-clause-head : goal.returns-then-is_some-clause-head
returns-then-is_some-clause-head g c =
    let top = c.in-Some.ensures in
    let slots = c.loop-place.self-inside.slots.items in
    let places = get nat_eq c.loop-place.self-inside.places in
    let ranks = heap_items c.loop-place.self-inside.ranks in
    let inv = c.loop-place.invariant.1 in
    let within = top_within slots places ranks c.loop-place.self-inside.count top.0 inv.laid top.2.first in
    let P : ℕ → Type 0 = λ p. IsFilled slots p in
    let filled = filled_read slots c.in-Some.place c.index.result.now (omega (arith, within, top.1)) c.index.ensures (sym c.is_some.ensures ∙ c.if-is_some.true) in
    let head = top_heads slots places ranks c.loop-place.self-inside.count top.0 inv.laid top.2.first (top.2.greatest inv.heaped) (subst P (sym top.1) filled) in
    let Q : ℕ → Type 0 = λ p. IsHeadAt slots p in
    let here = subst Q top.1 head in
    let R : Row g.row.K.Denot → Type 0 = λ row. IsHeadAt row.slots c.in-Some.place in
    subst R c.loop-place.invariant.0 here

pub loop-place-preserved : goal.loop-place-preserved
loop-place-preserved g c =
    let top = c.in-Some.ensures in
    let slots = c.loop-place.self-inside.slots.items in
    let places = get nat_eq c.loop-place.self-inside.places in
    let ranks = heap_items c.loop-place.self-inside.ranks in
    let inv = c.loop-place.invariant.1 in
    let drop = c.drop_top.ensures in
    let same : drop.top ≡ top.0 = (let a = drop.first in let b = top.2.first in (cc)) in
    let within = top_within slots places ranks c.loop-place.self-inside.count top.0 inv.laid top.2.first in (
      c.loop-place.invariant.0,
      record {
        laid = laid-drop slots places ranks (heap_items c.drop_top.new.ranks) c.loop-place.self-inside.count drop.top inv.laid drop.same
            (λ task h. unfilled_read slots c.in-Some.place c.index.result.now task (omega (arith, within, top.1)) c.index.ensures (sym c.is_some.ensures ∙ c.if-is_some.false) (let e : drop.top.1.0 ≡ c.in-Some.place = ap (λ r. r.1.0) same ∙ top.1 in rw (← e) h));
        heaped = drop.heaped inv.heaped;
        few_ranks = omega (arith, drop.fewer, inv.few_ranks);
        ranks_fit = omega (arith, drop.capacity, inv.ranks_fit);
        places_fit = inv.places_fit;
      },
    )

pub returns-clause-same : goal.returns-clause-same
returns-clause-same g c = c.loop-place.invariant.0

pub returns-clause-head : goal.returns-clause-head
returns-clause-head g c =
    let none = none_ranked c.loop-place.self-inside.slots.items (get nat_eq c.loop-place.self-inside.places) (heap_items c.loop-place.self-inside.ranks) c.loop-place.self-inside.count c.loop-place.invariant.1.laid c.in_default.ensures in
    rw (← c.loop-place.invariant.0) none

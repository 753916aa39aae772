use Rattle.std.proofs.Common.{arith, subst, sym}
use Rattle.qtc_inplace.specs.Conditions.{NeverDrops}
use Rattle.qtc_inplace.proofs.MapLemmas.{alone-maps, both-map, first-value, high-shared, low-shared, never-part, ready-part}
use Rattle.qtc_inplace.proofs.mapping.+together.Goals as goal

pub map_together-map_in_turn-requires-clause-never : goal.map_together-map_in_turn-requires-clause-never
map_together-map_in_turn-requires-clause-never g t c κs within =
    subst NeverDrops (sym (first-value g.F.ItemFn.value c.args.functions.now c.index-functions-0.result c.requires.ready.some_functions)) c.requires.never

pub map_together-returns-then-functions-eq1 : goal.map_together-returns-then-functions-eq1
map_together-returns-then-functions-eq1 g t c =
    alone-maps g.F.ItemFn.value g.F.ItemFn.called c.args.size c.args.first c.args.list.now c.map_in_turn.new.list c.args.functions.now c.index-functions-0.result c.map_in_turn.new.function c.map_in_turn.result
    c.if-functions-eq1.true c.map_in_turn.ensures.maps c.map_in_turn.ensures.value_stays

pub map_together-map_both-requires-clause-back : goal.map_together-map_both-requires-clause-back
map_together-map_both-requires-clause-back g t c κs within =
    let list = c.split_at_mut-front in
    let fns = c.split_at_mut-low in
    let some = c.requires.ready.some_functions in
    let more = c.if-functions-eq1.false in
    let cut = c.run_end-at.ensures in
    ready-part g.F.ItemFn.value c.args.size c.args.first _ c.args.list.now list.result.1.now c.args.functions.now fns.result.1.now
    (omega (arith, fns.ensures.back_len)) (omega (arith, fns.ensures.back_len)) (omega (arith, list.ensures.back_len))
    (high-shared g.F.ItemFn.value c.args.functions.now fns.result.0.now fns.result.1.now fns.ensures.value c.requires.ready.one_value) c.requires.ready

pub map_together-map_both-requires-clause-low : goal.map_together-map_both-requires-clause-low
map_together-map_both-requires-clause-low g t c κs within =
    let fns = c.split_at_mut-low in
    let some = c.requires.ready.some_functions in
    let more = c.if-functions-eq1.false in
    never-part g.F.ItemFn.value _ fns.result.0.now (omega (arith, fns.ensures.front_len))
    (low-shared g.F.ItemFn.value c.args.functions.now fns.result.0.now fns.result.1.now fns.ensures.value c.requires.ready.one_value) c.requires.never

pub map_together-map_both-requires-clause-high : goal.map_together-map_both-requires-clause-high
map_together-map_both-requires-clause-high g t c κs within =
    let fns = c.split_at_mut-low in
    let some = c.requires.ready.some_functions in
    let more = c.if-functions-eq1.false in
    never-part g.F.ItemFn.value _ fns.result.1.now (omega (arith, fns.ensures.back_len))
    (high-shared g.F.ItemFn.value c.args.functions.now fns.result.0.now fns.result.1.now fns.ensures.value c.requires.ready.one_value) c.requires.never

pub map_together-returns : goal.map_together-returns
map_together-returns g t c =
    let list = c.split_at_mut-front in
    let fns = c.split_at_mut-low in
    let some = c.requires.ready.some_functions in
    let more = c.if-functions-eq1.false in
    both-map g.F.ItemFn.value g.F.ItemFn.called c.args.size c.args.first c.run_end-at.result c.args.list.now
    list.result.0.now c.map_both.new.front list.result.1.now c.map_both.new.back
    c.args.functions.now fns.result.0.now c.map_both.new.low fns.result.1.now c.map_both.new.high c.map_both.result
    list.ensures.value list.ensures.front_len c.run_end-at.ensures fns.ensures.value (omega (arith, fns.ensures.front_len)) (omega (arith, fns.ensures.back_len)) c.requires.ready c.map_both.ensures

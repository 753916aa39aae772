use Rattle.std.proofs.Common.{◌++◌, arith, sym, ◌∙◌}
use Rattle.std.proofs.lemmas.List.{take-append-drop}
use Rattle.qtc_inplace.proofs.MapLemmas.{high-shared, ready-part}
use Rattle.qtc_inplace.proofs.SpreadLemmas.{alone-takes, both-take}
use Rattle.qtc_inplace.proofs.spreading.+spread.Goals as goal

pub take_together-returns-then-functions-eq1 : goal.take_together-returns-then-functions-eq1
take_together-returns-then-functions-eq1 g t c =
    alone-takes g.F.ItemFn.value g.F.ItemFn.called g.T.Taking.taken (λ made. made.items) c.args.first c.args.list.now c.args.functions.now c.index-functions-0.result c.take_in_turn.new.function c.take_in_turn.result
    c.if-functions-eq1.true c.take_in_turn.ensures.taken c.take_in_turn.ensures.tells c.take_in_turn.ensures.calls c.take_in_turn.ensures.value_stays

pub take_together-take_both-requires-clause-back : goal.take_together-take_both-requires-clause-back
take_together-take_both-requires-clause-back g t c κs within =
    let list = c.split_at in
    let fns = c.split_at_mut-low in
    let some = c.requires.some_functions in
    let more = c.if-functions-eq1.false in
    let cut = c.run_end-at.ensures in
    ready-part g.F.ItemFn.value c.args.size c.args.first _ c.args.list.now list.result.1.now c.args.functions.now fns.result.1.now
    (omega (arith, fns.ensures.back_len)) (omega (arith, fns.ensures.back_len)) (omega (arith, list.ensures.back_len))
    (high-shared g.F.ItemFn.value c.args.functions.now fns.result.0.now fns.result.1.now fns.ensures.value c.requires.one_value) c.requires

pub take_together-returns : goal.take_together-returns
take_together-returns g t c =
    let list = c.split_at in
    let fns = c.split_at_mut-low in
    let some = c.requires.some_functions in
    let more = c.if-functions-eq1.false in
    let is = sym (take-append-drop c.run_end-at.result c.args.list.now) ∙ (λ p. sym list.ensures.front p ++ sym list.ensures.back p) in
    both-take g.F.ItemFn.value g.F.ItemFn.called g.T.Taking.taken (λ made. made.items) c.args.size c.args.first c.run_end-at.result c.args.list.now
    list.result.0.now list.result.1.now
    c.args.functions.now fns.result.0.now c.take_both.new.low fns.result.1.now c.take_both.new.high c.take_both.result
    is list.ensures.front_len fns.ensures.value (omega (arith, fns.ensures.front_len)) (omega (arith, fns.ensures.back_len)) c.requires c.take_both.ensures

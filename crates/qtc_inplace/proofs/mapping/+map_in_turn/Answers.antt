use Rattle.qtc_inplace.proofs.MapLemmas.{in-turn-maps}
use Rattle.qtc_inplace.proofs.mapping.+map_in_turn.Goals as goal

pub returns-clause-maps : goal.returns-clause-maps
returns-clause-maps g t c =
    let value = g.F.ItemFn.value in
    let called = g.F.ItemFn.called in
    let cut = c.split_at_mut-front in
    in-turn-maps (value c.args.function.now) (value c.map_in_turn-low.new.function) c.args.size c.args.first c.middle-at.result c.args.list.now
    cut.result.0.now c.map_in_turn-low.new.list cut.result.1.now c.map_in_turn-high.new.list
    (called c.args.function.now) (called c.map_in_turn-low.new.function) (called c.map_in_turn-high.new.function)
    c.map_in_turn-low.result c.map_in_turn-high.result c.joined.result
    c.requires.size cut.ensures.value cut.ensures.front_len c.middle-at.ensures.cut c.map_in_turn-low.ensures.value_stays c.joined.ensures
    c.map_in_turn-low.ensures.maps c.map_in_turn-high.ensures.maps

use Rattle.std.proofs.Common.{ap, length, sym, ◌∙◌}
use Rattle.qtc_inplace.proofs.MapLemmas.{chunk-kept, chunk-mapped, length-mapped}
use Rattle.qtc_inplace.proofs.mapping.map_chunk.Goals as goal

pub swap_with_slice-requires : goal.swap_with_slice-requires
swap_with_slice-requires g c =
    let value = g.F.ItemFn.value c.args.function.now in
    sym (ap length (c.as_mut_slice.ensures.value ∙ c.in-Ok.ensures.taken) ∙ length-mapped value c.requires.never c.args.chunk.now c.in-Ok.ensures.tells)

pub returns-in-Ok-clause-maps : goal.returns-in-Ok-clause-maps
returns-in-Ok-clause-maps g c =
    let value = g.F.ItemFn.value c.args.function.now in
    let called = g.F.ItemFn.called in
    chunk-mapped value c.args.size c.args.first c.args.chunk.now c.swap_with_slice.new.self (called c.args.function.now) (called c.take_in_turn.new.function) c.in-Ok.values
    c.requires.one.0 c.requires.one.1 c.swap_with_slice.ensures.len (c.swap_with_slice.ensures.after ∙ c.as_mut_slice.ensures.value ∙ c.in-Ok.ensures.taken) c.in-Ok.ensures.tells c.in-Ok.ensures.calls

pub returns-in-Err-clause-maps : goal.returns-in-Err-clause-maps
returns-in-Err-clause-maps g c =
    let called = g.F.ItemFn.called in
    chunk-kept (g.F.ItemFn.value c.args.function.now) c.args.size c.args.first c.args.chunk.now (called c.args.function.now) (called c.take_in_turn.new.function) c.in-Err.fault
    c.requires.one.0 c.requires.one.1 c.in-Err.ensures.tells c.in-Err.ensures.calls

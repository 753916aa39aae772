use Rattle.std.proofs.Common.{◌∙◌}
use Rattle.qtc_load.proofs.Texts.{more-next, stop-next}
use Rattle.qtc_load.proofs.loads.load_all.Goals as goal

pub loop-name-preserved : goal.loop-name-preserved
loop-name-preserved g c =
    more-next c.args.names.now c.loop-name.name-index c.name-item.result c.as_slice.result.now _ _ _ _ _ _ c.loop-name-test.true (c.as_slice.ensures ∙ c.name-item.is) c.loop-name.invariant c.in-Ok.ensures.ok

pub returns-in-Err-clause-err : goal.returns-in-Err-clause-err
returns-in-Err-clause-err g c =
    stop-next c.args.names.now c.loop-name.name-index c.name-item.result c.as_slice.result.now _ _ _ _ _ _ c.loop-name-test.true (c.as_slice.ensures ∙ c.name-item.is) c.loop-name.invariant c.in-Err.ensures.err

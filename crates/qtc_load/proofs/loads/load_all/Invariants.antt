use Rattle.std.proofs.Common.{take}
use Rattle.qtc_load.specs.LoadSteps.{LoadsMore}
use Rattle.qtc_load.proofs.loads.load_all.Given as goal

abbrev pub invariant-loop-name : goal.invariant-loop-name
invariant-loop-name g l =
    LoadsMore (take l.name-index l.names) l.fn.shelf.loaded (g.T.Texts.source l.fn.texts) l.shelf.loaded (g.T.Texts.source l.texts)

use Rattle.std.proofs.Common.{◌+◌, ◌-◌, length}
use Rattle.qtc_outside.specs.Loading.{IsReadSoFar}
use Rattle.qtc_outside.proofs.loading.read_rest.Given as goal

abbrev pub invariant-loop-text : goal.invariant-loop-text
invariant-loop-text g l = IsReadSoFar (g.T.Texts.source l.fn.texts) l.text.items l.limit (g.T.Texts.source l.texts)

abbrev pub decreases-loop-text : goal.decreases-loop-text
decreases-loop-text g l = l.limit + 1 - length l.text.items

use Rattle.std.proofs.Common.{◌≡◌, ◌++◌, length}
use Rattle.qtc_run.specs.Sources.{pieces_of}
use Rattle.qtc_run.proofs.sources.piece_items.Given as goal

abbrev pub invariant-loop-rest : goal.invariant-loop-rest
invariant-loop-rest l = pieces_of l.size l.text ≡ l.items ++ pieces_of l.size l.rest

abbrev pub decreases-loop-rest : goal.decreases-loop-rest
decreases-loop-rest l = length l.rest

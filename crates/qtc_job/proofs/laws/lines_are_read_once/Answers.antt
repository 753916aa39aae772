use Rattle.std.proofs.Common.{sym, ◌∙◌}
use Rattle.qtc_job.proofs.laws.lines_are_read_once.Goals as goal

pub returns : goal.returns
returns c = λ lines a b p q. p.says ∙ sym q.says

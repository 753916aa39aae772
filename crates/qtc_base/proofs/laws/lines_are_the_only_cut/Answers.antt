use Rattle.qtc_base.proofs.LineLaws.{lines-only}
use Rattle.qtc_base.proofs.laws.lines_are_the_only_cut.Goals as goal

pub returns : goal.returns
returns c = lines-only

use Rattle.qtc_base.proofs.LineLaws.{lines-are}
use Rattle.qtc_base.proofs.laws.lines_are_cut_at_line_feeds.Goals as goal

pub returns : goal.returns
returns c = lines-are

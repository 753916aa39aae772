use Rattle.qtc_run.proofs.LineCounts.{lines-counted}
use Rattle.qtc_run.proofs.laws.lines_count_feeds.Goals as goal

pub returns : goal.returns
returns c = lines-counted

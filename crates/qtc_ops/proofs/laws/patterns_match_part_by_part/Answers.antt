use Rattle.qtc_ops.proofs.WildcardLemmas.{Matches-append}
use Rattle.qtc_ops.proofs.laws.patterns_match_part_by_part.Goals as goal

pub returns : goal.returns
returns c = Matches-append

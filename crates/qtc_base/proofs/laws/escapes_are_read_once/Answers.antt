use Rattle.qtc_base.proofs.EscapeLaws.{escaped-same}
use Rattle.qtc_base.proofs.laws.escapes_are_read_once.Goals as goal

pub returns : goal.returns
returns c = escaped-same

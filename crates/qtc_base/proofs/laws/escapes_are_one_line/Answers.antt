use Rattle.qtc_base.proofs.EscapeLaws.{escaped-printed}
use Rattle.qtc_base.proofs.laws.escapes_are_one_line.Goals as goal

pub returns : goal.returns
returns c = escaped-printed

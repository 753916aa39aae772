use Rattle.qtc_base.proofs.DecimalLaws.{decimal-spells}
use Rattle.qtc_base.proofs.laws.decimals_spell_their_number.Goals as goal

pub returns : goal.returns
returns c = decimal-spells

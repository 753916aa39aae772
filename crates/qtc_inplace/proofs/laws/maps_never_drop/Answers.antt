use Rattle.qtc_inplace.proofs.OperationLemmas.{maps-never}
use Rattle.qtc_inplace.proofs.laws.maps_never_drop.Goals as goal

pub returns : goal.returns
returns c = maps-never

-- What the operations of job files never do.
use Rattle.std.proofs.Common.{◌≡◌, ℕ, Bool, true, false, List, cond}
use Rattle.qtc_ops.specs.ItemValue.{kept, dropped, bad}
use Rattle.qtc_ops.specs.Numbers.{is_number}
use Rattle.qtc_ops.specs.declared.operations.MapOp.TheVariants.{Same, Length, Digest, Field, Number}
use Rattle.qtc_inplace.specs.Laws.{MapsNeverDrop}

either : (b : Bool) (text : List ℕ) → cond b (kept text) bad ≡ dropped → ⊥
either true text is = cc
either false text is = cc

pub maps-never : MapsNeverDrop
maps-never Same member is = cc
maps-never Length member is = cc
maps-never Digest member is = cc
maps-never (Field number) member is = cc
maps-never Number member is = either (is_number member) _ is

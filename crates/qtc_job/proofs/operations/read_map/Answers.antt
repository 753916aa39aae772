use Rattle.std.proofs.Common.{ap}
use Rattle.qtc_ops.specs.declared.operations.ItemOp.TheVariants.{Map}
use Rattle.qtc_job.proofs.operations.read_map.Goals as goal

pub returns-in-Ok-map_kind : goal.returns-in-Ok-map_kind
returns-in-Ok-map_kind c = λ names. let k = c.in-Ok.ensures in let e = c.in-Ok-map_kind.ensures names in rw (k.cut, k.is) (e.0, ap Map e.1)

pub returns-in-Err-map_kind : goal.returns-in-Err-map_kind
returns-in-Err-map_kind c = λ names. let k = c.in-Ok.ensures in rw (k.cut, k.is) (c.in-Err-map_kind.ensures names)
